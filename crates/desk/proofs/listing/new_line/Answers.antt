use Rattle.desk.proofs.Laying.{new_found}
use Rattle.desk.proofs.listing.new_line.Goals as goal

pub returns : goal.returns
returns c = new_found _ _ _ c.known.ensures c.card_unless.ensures c.place_of.ensures
