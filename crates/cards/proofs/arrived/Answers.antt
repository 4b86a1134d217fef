-- `cards::arrived` meets its contract: the one that waited stands on the raised lift (proofs/Listing.antt). Assumes nothing.
use Rattle.cards.proofs.Listing.{has_arrived}
use Rattle.cards.proofs.arrived.Goals as goal

pub returns : goal.returns
returns c = has_arrived _ c.well_formed.0.1.0.1 0
