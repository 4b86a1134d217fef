use mathlib.Core.Bool.{◌||◌}
use Prim.Native.Nat.{◌+◌, ◌≤◌}
use Rattle.plain.proofs.Listing.{Filling}
use Rattle.plain_moves.specs.Moves.{parts_bits}
use Rattle.plain_moves.proofs.marks.slots_with.Given as goal

abbrev pub invariant-loop-j : goal.invariant-loop-j
invariant-loop-j l = Filling (λ i. parts_bits l.p (40 + i) || parts_bits l.q (40 + i)) 12 l.slots l.j × (l.j ≤ 12)
