use mathlib.Core.Path.{◌∙◌}
use Rattle.codec.proofs.LittleEndian.{two_said}
use Rattle.wire.proofs.word.Goals as goal

pub returns : goal.returns
returns c = c.from_le_bytes.ensures ∙ two_said c.args.low c.args.high
