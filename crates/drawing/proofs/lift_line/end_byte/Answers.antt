use mathlib.Core.Path.{◌∙◌}
use Rattle.codec.specs.Text.{ascii}
use Rattle.drawing.proofs.lift_line.end_byte.Goals as goal

pub returns-in-1 : goal.returns-in-1
unfolding ascii
returns-in-1 c = c.byte.ensures ∙ simp c.in-1.is

pub returns-in-2 : goal.returns-in-2
unfolding ascii
returns-in-2 c = c.byte-in-2.ensures ∙ simp c.in-2.is
