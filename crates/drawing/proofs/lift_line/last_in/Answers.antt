use mathlib.Core.Path.{◌∙◌}
use Rattle.drawing.specs.Private.{last_told}
use Rattle.drawing.proofs.lift_line.last_in.Goals as goal

pub returns-then-apart : goal.returns-then-apart
unfolding last_told
returns-then-apart c = c.apart_in.ensures ∙ rw c.if-apart.true

pub returns : goal.returns
unfolding last_told
returns c = c.lift_in.ensures ∙ rw c.if-apart.false
