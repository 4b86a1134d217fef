use Prim.Native.Nat.{◌+◌, ◌≤◌}
use Rattle.bits.specs.Bits.{bit}
use Rattle.plain.proofs.Listing.{Filling}
use Rattle.plain.proofs.images.slots_of.Given as goal

abbrev pub invariant-loop-j : goal.invariant-loop-j
invariant-loop-j l = Filling (λ i. bit l.r (40 + i)) 12 l.slots l.j × (l.j ≤ 12)
