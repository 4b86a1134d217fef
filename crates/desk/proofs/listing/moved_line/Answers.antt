use Rattle.desk.proofs.Laying.{moved_found}
use mathlib.Core.Path.{refl}
use Rattle.desk.proofs.listing.moved_line.Goals as goal

pub returns : goal.returns
returns c = moved_found _ _ _ _ c.place_of-place.ensures c.card_place-to.ensures c.card_unless.ensures c.is_under.ensures refl c.place_told.ensures
