-- `plain::images::slots_of` meets its contract: the loop fills the array by element (proofs/Listing.antt). Assumes nothing.
use native.Mathlib.Omega.{arith}
use Rattle.plain.proofs.Listing.{fill_starts, fills, fill_ends}
use Rattle.plain.proofs.images.slots_of.Goals as goal

pub loop-j-init : goal.loop-j-init
loop-j-init c = (fill_starts _ 12, omega arith)

pub loop-j-preserved : goal.loop-j-preserved
loop-j-preserved c = (fills c.loop-j.invariant.0 (omega arith) c.bit.ensures, omega arith)

pub returns : goal.returns
returns c = fill_ends c.loop-j.invariant.0 (omega arith)
