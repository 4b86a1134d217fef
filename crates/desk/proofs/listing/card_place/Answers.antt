use Rattle.desk.proofs.Laying.{card_there, card_waits, card_gone}
use Rattle.desk.proofs.listing.card_place.Goals as goal

pub returns-then-k-ne-NOT_HERE : goal.returns-then-k-ne-NOT_HERE
returns-then-k-ne-NOT_HERE c = card_there _ _ c.where_is-k.ensures c.if-k-ne-NOT_HERE.true

pub returns-then-numbers-card : goal.returns-then-numbers-card
returns-then-numbers-card c = card_waits _ _ c.where_is-k.ensures c.if-k-ne-NOT_HERE.false c.if-numbers-card.true

pub returns : goal.returns
returns c = card_gone _ _ c.where_is-k.ensures c.if-k-ne-NOT_HERE.false c.if-numbers-card.false
