-- `station_c::sets::area_in` meets its contract: by what the five bytes say. Assumes nothing.
use borrow.Author.Rules.{rules}
use Rattle.station_c.specs.Sets.{area_in}
use Rattle.station_c.proofs.sets.area_in.Goals as goal

pub returns : goal.returns
unfolding area_in
returns c = search rules
