-- `desk_c::load` meets its contract: the station, and the numbers behind it. Assumes nothing.
use Rattle.desk_c.proofs.Rooms.{desk_loaded}
use Rattle.desk_c.proofs.load.Goals as goal

pub returns : goal.returns
returns c = desk_loaded c.args.room.now c.requires c.station_of-station.ensures c.numbers_in-numbers.ensures
