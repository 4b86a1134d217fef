-- `station::held::parts` meets its contract: the area without the lift's height. Assumes nothing.
use Rattle.station.proofs.Areas.{parts_is}
use Rattle.station.proofs.held.parts.Goals as goal

pub returns : goal.returns
returns c = parts_is _ c.area.ensures
