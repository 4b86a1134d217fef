use Rattle.drawing.specs.Private.{mark_in}
use Rattle.drawing.proofs.Tables.{Rows, Row}
use Rattle.drawing.proofs.grid.grid_in.Given as goal

abbrev pub invariant-loop-j : goal.invariant-loop-j
invariant-loop-j l = Row (mark_in l.text) l.g l.i l.j

abbrev pub invariant-loop-i : goal.invariant-loop-i
invariant-loop-i l = Rows (mark_in l.text) l.g l.i
