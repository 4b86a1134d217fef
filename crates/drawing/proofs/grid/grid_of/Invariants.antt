use Rattle.bits.specs.Bits.{bit}
use Rattle.drawing.specs.Private.{cell_mark}
use Rattle.drawing.proofs.Tables.{Rows, Row}
use Rattle.drawing.proofs.grid.grid_of.Given as goal

abbrev pub invariant-loop-j : goal.invariant-loop-j
invariant-loop-j l = Row (cell_mark l.apart (bit l.image)) l.g l.i l.j

abbrev pub invariant-loop-i : goal.invariant-loop-i
invariant-loop-i l = Rows (cell_mark l.apart (bit l.image)) l.g l.i
