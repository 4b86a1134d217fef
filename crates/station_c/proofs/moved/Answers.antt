-- `station_c::moved` meets its contract: by what the five bytes say. Assumes nothing.
use mathlib.Core.Path.{◌∙◌}
use Rattle.rooms.specs.Questions.{moved}
use Rattle.station_c.proofs.moved.Goals as goal

pub returns-in-Some : goal.returns-in-Some
unfolding moved
returns-in-Some c = c.moved.ensures ∙ rw (← c.read_bytes.ensures, c.in-Some.is)

pub returns-in-None : goal.returns-in-None
unfolding moved
returns-in-None c = rw (← c.read_bytes.ensures, c.in-None.is)
