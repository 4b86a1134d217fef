-- `station::sets::only` meets its contract: the places passed are copied, the rest zero. Assumes nothing.
use Rattle.std.proofs.Common.{arith}
use Rattle.station.proofs.Loops.{copy_start, copy_turn, copy_end, all_used}
use Rattle.station.proofs.sets.only.Goals as goal

pub returns-then-n-ge8 : goal.returns-then-n-ge8
returns-then-n-ge8 c = all_used _ _ c.well_formed.0.1.0.1 c.if-n-ge8.true

pub loop-k-init : goal.loop-k-init
loop-k-init c = copy_start _ _

pub loop-k-preserved : goal.loop-k-preserved
loop-k-preserved c = copy_turn c.well_formed.0.1.0.1 c.loop-k.invariant (omega arith) (omega arith)

pub returns : goal.returns
returns c = copy_end c.loop-k.invariant (omega arith)
