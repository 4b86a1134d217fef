use Prim.Native.Nat.{◌≤◌}
use lib.Dec.{ltb}
use Rattle.plain.proofs.Listing.{Filling}
use Rattle.panel.proofs.deciding.row_one.Given as goal

abbrev pub invariant-loop-cell : goal.invariant-loop-cell
invariant-loop-cell l = Filling (λ k. ltb k 20) 40 l.cells l.cell × (l.cell ≤ 40)
