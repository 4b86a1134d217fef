use mathlib.Core.Path.{◌∙◌}
use Rattle.codec.proofs.LittleEndian.{four_said}
use Rattle.codec.proofs.joined.Goals as goal

pub returns : goal.returns
returns c = c.from_le_bytes.ensures ∙ four_said c.args.a c.args.b c.args.c c.args.d
