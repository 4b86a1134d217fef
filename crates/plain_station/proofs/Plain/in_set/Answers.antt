-- `plain_station::Plain::in_set` meets its contract: the count is the station's own. Assumes nothing.
use Rattle.std.proofs.Common.{refl}
use Rattle.plain_station.specs.Plain.{packed_of}
use Rattle.plain_station.proofs.Plain.in_set.Goals as goal

pub returns : goal.returns
unfolding packed_of
returns c = refl
