-- `panel::deciding::row_one` meets its contract: the loop fills the array by element. Assumes nothing.
use mathlib.Core.Path.{refl}
use native.Mathlib.Omega.{arith}
use Rattle.plain.proofs.Listing.{fill_starts, fills, fill_ends}
use Rattle.panel.proofs.deciding.row_one.Goals as goal

pub loop-cell-init : goal.loop-cell-init
loop-cell-init c = (fill_starts _ 40, (omega arith))

pub loop-cell-preserved : goal.loop-cell-preserved
loop-cell-preserved c = (fills c.loop-cell.invariant.0 (omega arith) refl, (omega arith))

pub returns : goal.returns
returns c = fill_ends c.loop-cell.invariant.0 (omega arith)
