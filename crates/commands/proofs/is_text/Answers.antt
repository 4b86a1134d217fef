-- `==` decides whether the word is the text. Assumes nothing.
use Rattle.std.proofs.lemmas.Bool.Decides.{same_from_decides, Decides-eqb}
use Rattle.std.proofs.lemmas.Slice.Eq.{slice_eq-Decides}
use Rattle.commands.proofs.Texts.{is_text_decides}
use Rattle.commands.proofs.is_text.Goals as goal

pub returns : goal.returns
returns c = same_from_decides _ _ (slice_eq-Decides Decides-eqb _ _ _ c.eq.ensures) (is_text_decides c.args.text.now c.args.word.now)
