-- `cards::sources::low` meets its contract: each return is one case of the definition. Assumes nothing.
use Rattle.cards.proofs.Finding.{low_place, high_place}
use Rattle.cards.proofs.sources.low.Goals as goal

pub returns : goal.returns
returns c = rw (c.free.ensures, c.all.ensures, low_place, high_place)
