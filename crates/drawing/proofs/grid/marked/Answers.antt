use native.Mathlib.Omega.{arith}
use Rattle.drawing.proofs.Cells.{placed}
use Rattle.drawing.proofs.grid.marked.Goals as goal

pub offset_bounds-g-row_of : goal.offset_bounds-g-row_of
offset_bounds-g-row_of c = omega (arith, (placed c.args.k).row, c.row_of.ensures)

pub bounds-g-row_of : goal.bounds-g-row_of
bounds-g-row_of c = omega (arith, (placed c.args.k).row, c.row_of.ensures)

pub bounds-g-place_of : goal.bounds-g-place_of
bounds-g-place_of c = omega (arith, (placed c.args.k).place, c.place_of.ensures)

pub returns : goal.returns
returns c = simp (c.row_of.ensures, c.place_of.ensures, c.occupied-mark.ensures)
