-- `panel::shuttles::slots_in` meets its contract: three stores. Assumes nothing.
use mathlib.Core.Path.{refl}
use Rattle.panel.specs.Private.{slots_of_rows}
use Rattle.panel.proofs.shuttles.slots_in.Goals as goal

pub returns : goal.returns
unfolding slots_of_rows
returns c = refl
