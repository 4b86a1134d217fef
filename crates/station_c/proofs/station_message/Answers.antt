-- `station_c::station_message` meets its contract: either room too short, or the reply, and the station if the message was taken. Assumes nothing.
use borrow.Author.Rules.{rules}
use native.Mathlib.Omega.{arith}
use Rattle.rooms.proofs.Rooms.{lent_there}
use Rattle.station_c.proofs.Exchanging.{short_room, short_reply, told_why, replied}
use Rattle.station_c.proofs.station_message.Goals as goal

pub returns-then-room-lt-STATION : goal.returns-then-room-lt-STATION
returns-then-room-lt-STATION c = short_room _ _ _ c.if-room-lt-STATION.true c.say.ensures

pub returns-in-Err : goal.returns-in-Err
returns-in-Err c =
    short_reply _ _ _ (omega (arith, c.if-room-lt-STATION.false))
    (lent_there _ (omega (arith, c.if-room-lt-STATION.false))
    c.station_of.ensures)
    c.respond-o.ensures
    c.write_plain.ensures c.in-Err.is c.say-in-Err.ensures

pub returns-then-r-ne0 : goal.returns-then-r-ne0
returns-then-r-ne0 c =
    told_why _ _ _ (omega (arith, c.if-room-lt-STATION.false))
    (lent_there _ (omega (arith, c.if-room-lt-STATION.false))
    c.station_of.ensures)
    c.respond-o.ensures
    c.write_plain.ensures c.in-Ok.is c.returned_of-r.ensures c.if-r-ne0.true

pub returns : goal.returns
returns c =
    replied _ _ _
    (omega (arith, c.if-room-lt-STATION.false))
    (lent_there _ (omega (arith, c.if-room-lt-STATION.false))
    c.station_of.ensures)
    c.respond-o.ensures
    c.write_plain.ensures c.in-Ok.is
    c.returned_of-r.ensures
    c.if-r-ne0.false
    c.station_bytes.ensures (omega arith) (c.copy.ensures.all (search rules)).1
