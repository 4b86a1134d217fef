-- `plain::places::gapless` meets its contract: the loop looks for a gap bit by bit. Assumes nothing.
use native.Mathlib.Omega.{arith}
use Rattle.plain.proofs.Standing.{pass_starts, passes, pass_ends}
use Rattle.plain.proofs.places.gapless.Goals as goal

pub loop-n-init : goal.loop-n-init
loop-n-init c = pass_starts _

pub loop-n-preserved : goal.loop-n-preserved
loop-n-preserved c = passes c.loop-n.invariant (omega arith) c.names-here.ensures

pub returns : goal.returns
returns c = pass_ends c.loop-n.invariant (omega arith)
