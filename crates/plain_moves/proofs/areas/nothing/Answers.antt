-- `plain_moves::areas::nothing` meets its contract: the two compute to the same. Assumes nothing.
use mathlib.Core.Path.{refl}
use Rattle.plain.specs.Plain.{listed}
use Rattle.plain_moves.specs.Moves.{parts_at}
use Rattle.plain_moves.proofs.areas.nothing.Goals as goal

pub returns : goal.returns
unfolding parts_at listed
returns c = refl
