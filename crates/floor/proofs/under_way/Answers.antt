-- `floor::under_way` meets its contract: the mask names the two bits of the drives. Assumes nothing.
use mathlib.Core.Path.{ap}
use mathlib.Core.Bool.{not}
use Rattle.bits.specs.Places.{places}
use Rattle.floor.proofs.under_way.Goals as goal

pub returns : goal.returns
unfolding places
returns c = ap not c.free.ensures
