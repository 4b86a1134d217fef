use Prim.Native.Nat.{◌≤◌}
use Rattle.bits.specs.Bits.{bit}
use Rattle.plain.proofs.Listing.{Filling}
use Rattle.plain.proofs.images.cells_of.Given as goal

abbrev pub invariant-loop-k : goal.invariant-loop-k
invariant-loop-k l = Filling (bit l.r) 40 l.cells l.k × (l.k ≤ 40)
