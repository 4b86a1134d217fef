-- `cards::sources::shuttle_source`: a row that is found is one of three. Assumes nothing.
use mathlib.Core.Path.{sym, ◌∙◌}
use Rattle.cards.proofs.Finding.{row_small}
use Rattle.cards.proofs.sources.shuttle_source.Goals as goal

pub row_behind-behind-requires : goal.row_behind-behind-requires
row_behind-behind-requires c = let a = c.args in row_small a.side a.k (sym c.row_at.ensures ∙ c.in-Some.is)
