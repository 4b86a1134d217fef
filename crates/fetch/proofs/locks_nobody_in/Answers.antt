-- `fetch::locks_nobody_in` meets its contract: the masks name the cells on either side of the lift. Assumes nothing.
use mathlib.Core.Path.{ap₂}
use mathlib.Core.Bool.{Bool, ◌||◌}
use Rattle.bits.specs.Places.{places}
use Rattle.fetch.specs.Room.{locks_nobody_in}
use Rattle.fetch.proofs.locks_nobody_in.Goals as goal

pub returns : goal.returns
unfolding locks_nobody_in places
returns c = ap₂ (λ (a b : Bool). a || b) c.few.ensures c.few-2.ensures
