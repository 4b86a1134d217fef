-- `desk::questions::is_under` meets its contract: the cell, and in row 1 the next one. Assumes nothing.
use Rattle.desk.proofs.Asking.{either_cell}
use Rattle.desk.proofs.questions.is_under.Goals as goal

pub returns : goal.returns
returns c = let a = c.args in either_cell a.parts a.k c.bit.ensures c.bit-2.ensures
