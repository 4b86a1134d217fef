use Rattle.codec.specs.Text.{ascii}
use Rattle.drawing.proofs.lift_line.end_size.Goals as goal

pub returns-in-1 : goal.returns-in-1
unfolding ascii
returns-in-1 c = simp c.in-1.is

pub returns-in-2 : goal.returns-in-2
unfolding ascii
returns-in-2 c = simp c.in-2.is
