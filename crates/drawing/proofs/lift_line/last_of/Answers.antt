use mathlib.Core.Path.{ap, ◌∙◌}
use Rattle.drawing.specs.Private.{apart_lift, last_shown}
use Rattle.drawing.proofs.lift_line.last_of.Goals as goal

pub returns-then-apart : goal.returns-then-apart
unfolding last_shown
returns-then-apart c = c.apart_lift.ensures ∙ ap apart_lift c.bit.ensures ∙ rw c.if-apart.true

pub returns : goal.returns
unfolding last_shown
returns c = c.lift_of.ensures ∙ rw c.if-apart.false
