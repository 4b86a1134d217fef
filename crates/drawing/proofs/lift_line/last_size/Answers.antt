use mathlib.Core.Path.{◌∙◌}
use Rattle.drawing.specs.Private.{words_of}
use Rattle.drawing.proofs.lift_line.last_size.Goals as goal

pub returns-then-apart : goal.returns-then-apart
unfolding words_of
returns-then-apart c = c.apart_size.ensures ∙ rw c.if-apart.true

pub returns : goal.returns
unfolding words_of
returns c = c.lift_size.ensures ∙ rw c.if-apart.false
