use mathlib.Core.Path.{◌∙◌}
use Rattle.codec.proofs.Fours.{four_read}
use Rattle.codec.proofs.got.Goals as goal

pub returns : goal.returns
returns c = c.joined.ensures ∙ four_read c.args.run.now c.args.at
