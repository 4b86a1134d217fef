use Rattle.bits.specs.Bits.{bit}
use Rattle.drawing.specs.Private.{grid, cell_mark, drawn_at}
use Rattle.drawing.proofs.Tables.{Filled}
use Rattle.drawing.proofs.put.Given as goal

abbrev pub invariant-loop-t : goal.invariant-loop-t
invariant-loop-t l = Filled (drawn_at l.apart (grid (cell_mark l.apart (bit l.image))) (bit l.image) l.sheet.lift) l.initial.room l.size l.room l.t
