use Prim.Native.Nat.{◌≤◌}
use Rattle.rules.specs.Cells.{cell_named}
use Rattle.plain.proofs.Listing.{Filling}
use Rattle.plain_moves.proofs.areas.belt_cells.Given as goal

abbrev pub invariant-loop-cell : goal.invariant-loop-cell
invariant-loop-cell l = Filling (cell_named l.row l.mask) 40 l.cells l.cell × (l.cell ≤ 40)
