use mathlib.Core.Path.{◌∙◌}
use Rattle.codec.proofs.LittleEndian.{eight_laid}
use Rattle.wire.proofs.image_bytes.Goals as goal

pub returns : goal.returns
returns c = c.to_le_bytes.ensures ∙ eight_laid c.args.x
