-- `rooms::station_of` meets its contract: too few bytes, or those that are loaded. Assumes nothing.
use borrow.Author.Tests.{lt-ltb, le-ltb}
use Rattle.rooms.specs.Rooms.{lent_station}
use Rattle.rooms.proofs.station_of.Goals as goal

pub returns-then-room-lt-STATION : goal.returns-then-room-lt-STATION
unfolding lent_station
returns-then-room-lt-STATION c = rw (lt-ltb _ _ c.if-room-lt-STATION.true)

pub returns : goal.returns
unfolding lent_station
returns c = rw (le-ltb _ _ c.if-room-lt-STATION.false) c.load.ensures
