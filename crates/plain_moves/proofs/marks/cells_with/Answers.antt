-- `plain_moves::marks::cells_with` meets its contract: the loop fills the array by element (plain/proofs/Listing.antt). Assumes nothing.
use mathlib.Core.Bool.{◌||◌}
use mathlib.Core.Path.{ap₂}
use native.Mathlib.Omega.{arith}
use Rattle.plain.proofs.Listing.{fill_starts, fills, fill_ends}
use Rattle.plain_moves.proofs.marks.cells_with.Goals as goal

pub loop-k-init : goal.loop-k-init
loop-k-init c = (fill_starts _ 40, (omega arith))

pub loop-k-preserved : goal.loop-k-preserved
loop-k-preserved c = (fills c.loop-k.invariant.0 (omega arith) (ap₂ ◌||◌ c.has.ensures c.has-in-loop-k.ensures), (omega arith))

pub returns : goal.returns
returns c = fill_ends c.loop-k.invariant.0 (omega arith)
