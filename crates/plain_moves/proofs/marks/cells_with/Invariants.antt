use mathlib.Core.Bool.{◌||◌}
use Prim.Native.Nat.{◌≤◌}
use Rattle.plain.proofs.Listing.{Filling}
use Rattle.plain_moves.specs.Moves.{parts_bits}
use Rattle.plain_moves.proofs.marks.cells_with.Given as goal

abbrev pub invariant-loop-k : goal.invariant-loop-k
invariant-loop-k l = Filling (λ i. parts_bits l.p i || parts_bits l.q i) 40 l.cells l.k × (l.k ≤ 40)
