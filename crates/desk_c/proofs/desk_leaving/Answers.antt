-- `desk_c::desk_leaving` meets its contract: either room too short, or the card that is leaving. Assumes nothing.
use Rattle.desk_c.proofs.Rooms.{leaving_short, out_short, card_parted, unfit_parted}
use native.Mathlib.Omega.{arith}
use Rattle.desk_c.proofs.desk_leaving.Goals as goal

pub returns-then-room-lt-DESK : goal.returns-then-room-lt-DESK
returns-then-room-lt-DESK c = leaving_short _ _ c.if-room-lt-DESK.true c.say.ensures

pub returns-then-card-lt-CARD : goal.returns-then-card-lt-CARD
returns-then-card-lt-CARD c = out_short _ _ (omega (arith, c.if-room-lt-DESK.false)) c.if-card-lt-CARD.true c.say-then-card-lt-CARD.ensures

pub returns : goal.returns
returns c =
    card_parted _ _ (omega (arith, c.if-room-lt-DESK.false)) (omega (arith, c.if-card-lt-CARD.false)) c.load.ensures c.leaving.ensures c.in-Ok.is
    c.unwrap_or.ensures c.put_card.ensures

pub returns-in_default : goal.returns-in_default
returns-in_default c =
    unfit_parted _ _ (omega (arith, c.if-room-lt-DESK.false)) (omega (arith, c.if-card-lt-CARD.false)) c.load.ensures c.leaving.ensures
    c.in_default.field-0 c.in_default.is c.say-in_default.ensures
