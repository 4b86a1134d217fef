-- `plain::images::cells_of` meets its contract: the loop fills the array by element (proofs/Listing.antt). Assumes nothing.
use native.Mathlib.Omega.{arith}
use Rattle.plain.proofs.Listing.{fill_starts, fills, fill_ends}
use Rattle.plain.proofs.images.cells_of.Goals as goal

pub loop-k-init : goal.loop-k-init
loop-k-init c = (fill_starts _ 40, omega arith)

pub loop-k-preserved : goal.loop-k-preserved
loop-k-preserved c = (fills c.loop-k.invariant.0 (omega arith) c.bit.ensures, omega arith)

pub returns : goal.returns
returns c = fill_ends c.loop-k.invariant.0 (omega arith)
