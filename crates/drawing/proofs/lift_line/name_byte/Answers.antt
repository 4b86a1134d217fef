use mathlib.Core.Path.{◌∙◌}
use Rattle.codec.specs.Text.{ascii}
use Rattle.std.proofs.lemmas.Grind.{common_steps}
use native.Mathlib.Omega.{arith}
use Rattle.drawing.proofs.lift_line.name_byte.Goals as goal

pub returns-in-0 : goal.returns-in-0
unfolding ascii
returns-in-0 c = c.byte.ensures ∙ simp c.in-0.is

pub returns-in-1 : goal.returns-in-1
unfolding ascii
returns-in-1 c = c.byte-in-1.ensures ∙ simp c.in-1.is

pub returns-in_default : goal.returns-in_default
unfolding ascii
returns-in_default c = grind (arith, common_steps)
