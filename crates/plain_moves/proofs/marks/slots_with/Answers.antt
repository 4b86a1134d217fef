-- `plain_moves::marks::slots_with` meets its contract: the loop fills the array by element (plain/proofs/Listing.antt). Assumes nothing.
use mathlib.Core.Bool.{◌||◌}
use mathlib.Core.Path.{ap₂}
use native.Mathlib.Omega.{arith}
use Rattle.plain.proofs.Listing.{fill_starts, fills, fill_ends}
use Rattle.plain_moves.proofs.marks.slots_with.Goals as goal

pub loop-j-init : goal.loop-j-init
loop-j-init c = (fill_starts _ 12, (omega arith))

pub loop-j-preserved : goal.loop-j-preserved
loop-j-preserved c = (fills c.loop-j.invariant.0 (omega arith) (ap₂ ◌||◌ c.has.ensures c.has-in-loop-j.ensures), (omega arith))

pub returns : goal.returns
returns c = fill_ends c.loop-j.invariant.0 (omega arith)
