use Rattle.cards.proofs.Listing.{new_at, Filling}
use Prim.Native.Nat.{◌≤◌}
use Rattle.cards.proofs.numbers_after.Given as goal

abbrev pub invariant-loop-j : goal.invariant-loop-j
invariant-loop-j l = Filling (new_at l.i l.r l.n) 42 l.new l.j × (l.j ≤ 42)
