-- `station_program::asking::of_name` meets its contract. Assumes nothing.
use Rattle.station_program.proofs.Opening.{opens}
use Rattle.station_program.proofs.asking.of_name.Goals as goal

pub returns : goal.returns
returns c = opens _ _ _ _ c.in_ok-read.found c.in_ok-file.journal c.in_ok-read.ensures c.if-found.false c.in_ok-file.ensures
