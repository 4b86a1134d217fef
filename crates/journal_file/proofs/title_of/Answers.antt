use mathlib.Core.Path.{◌∙◌}
use Rattle.codec.proofs.LittleEndian.{eight_laid}
use Rattle.journal_file.proofs.title_of.Goals as goal

pub returns : goal.returns
returns c = rw (c.to_le_bytes-n.ensures ∙ eight_laid c.args.size)
