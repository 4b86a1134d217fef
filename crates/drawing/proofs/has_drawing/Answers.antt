use mathlib.Core.Path.{◌∙◌}
use Rattle.drawing.proofs.has_drawing.Goals as goal

pub returns-then-apart : goal.returns-then-apart
returns-then-apart c = rw c.if-apart.true

pub returns : goal.returns
returns c = c.sound.ensures ∙ rw c.if-apart.false
