-- `panel::shuttles::shuttle_cells` meets its contract: two stores. Assumes nothing.
use mathlib.Core.Path.{refl}
use Rattle.panel.specs.Private.{shuttle_cells}
use Rattle.panel.proofs.shuttles.shuttle_cells.Goals as goal

pub returns : goal.returns
unfolding shuttle_cells
returns c = refl
