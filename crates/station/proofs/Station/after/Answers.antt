-- `station::Station::after` meets its contract. Assumes nothing.
use Rattle.station.proofs.Station.after.Goals as goal

pub returns : goal.returns
returns c = rw c.kept-set.ensures
