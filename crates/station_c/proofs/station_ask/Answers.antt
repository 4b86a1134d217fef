-- `station_c::station_ask` meets its contract: either room too short, or the image. Assumes nothing.
use native.Mathlib.Omega.{arith}
use Rattle.station_c.proofs.Asking.{ask_short, image_short, asked}
use Rattle.station_c.proofs.station_ask.Goals as goal

pub returns-then-room-lt-STATION : goal.returns-then-room-lt-STATION
returns-then-room-lt-STATION c = ask_short _ _ c.if-room-lt-STATION.true c.say.ensures

pub returns-then-image-lt-IMAGE : goal.returns-then-image-lt-IMAGE
returns-then-image-lt-IMAGE c = image_short _ _ (omega (arith, c.if-room-lt-STATION.false)) c.if-image-lt-IMAGE.true c.say-then-image-lt-IMAGE.ensures

pub returns : goal.returns
returns c =
    asked _ _ (omega (arith, c.if-room-lt-STATION.false))
    (omega (arith, c.if-image-lt-IMAGE.false))
    c.station_of-s.ensures
    c.ask-o.ensures
    c.image_in-b.ensures
    c.say-2.ensures c.tell.ensures
