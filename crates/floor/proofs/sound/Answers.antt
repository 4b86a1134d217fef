-- `floor::sound` meets its contract: row 1 and the other rules are the two halves of the definition. Assumes nothing.
use mathlib.Core.Path.{ap₂}
use mathlib.Core.Bool.{◌&&◌}
use Rattle.floor.specs.Sound.{sound}
use Rattle.floor.proofs.sound.Goals as goal

pub returns : goal.returns
unfolding sound
returns c = ap₂ ◌&&◌ c.row_paired.ensures c.rules_kept.ensures
