-- `floor::carries` meets its contract: each of the two answers is what the bits say. Assumes nothing.
use mathlib.Core.Path.{ap₂}
use mathlib.Core.Bool.{◌||◌}
use Rattle.floor.proofs.carries.Goals as goal

pub returns : goal.returns
returns c = ap₂ ◌||◌ c.free.ensures c.all.ensures
