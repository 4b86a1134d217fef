use mathlib.Core.Path.{◌∙◌}
use Rattle.codec.specs.Text.{ascii}
use Rattle.drawing.proofs.lift_line.apart_byte.Goals as goal

pub returns-then-car : goal.returns-then-car
unfolding ascii
returns-then-car c = c.byte.ensures ∙ rw c.if-car.true

pub returns : goal.returns
unfolding ascii
returns c = c.byte-2.ensures ∙ rw c.if-car.false
