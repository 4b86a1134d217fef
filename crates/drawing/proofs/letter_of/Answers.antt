use mathlib.Core.Path.{ap₂, ◌∙◌}
use Rattle.drawing.specs.Drawing.{letter}
use Rattle.drawing.proofs.letter_of.Goals as goal

pub returns : goal.returns
returns c = c.letter.ensures ∙ ap₂ letter c.bit-lowered.ensures c.bit-tilted.ensures
