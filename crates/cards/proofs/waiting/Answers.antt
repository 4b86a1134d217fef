-- `cards::waiting` meets its contract: the last element is the one that waits (proofs/Listing.antt). Assumes nothing.
use Rattle.cards.proofs.Listing.{now_waits}
use Rattle.cards.proofs.waiting.Goals as goal

pub returns : goal.returns
returns c = now_waits _ c.well_formed.0.1.0.1 _
