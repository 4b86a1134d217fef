-- `plain_moves::belts::shifted` meets its contract: the loop fills the array by element (plain/proofs/Listing.antt). Assumes nothing.
use native.Mathlib.Omega.{arith}
use Rattle.plain.proofs.Listing.{fill_starts, fills, fill_ends}
use Rattle.plain_moves.proofs.belts.shifted.Goals as goal

pub loop-cell-init : goal.loop-cell-init
loop-cell-init c = (fill_starts _ 40, (omega arith))

pub loop-cell-preserved : goal.loop-cell-preserved
loop-cell-preserved c = (fills c.loop-cell.invariant.0 (omega arith) c.comes.ensures, (omega arith))

pub returns : goal.returns
returns c = fill_ends c.loop-cell.invariant.0 (omega arith)
