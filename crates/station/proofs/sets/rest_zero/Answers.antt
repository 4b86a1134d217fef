-- `station::sets::rest_zero` meets its contract: what is gathered is zero if each place passed is. Assumes nothing.
use Rattle.station.proofs.Loops.{zero_start, zero_turn, zero_all}
use Rattle.station.proofs.sets.rest_zero.Goals as goal

pub loop-k-init : goal.loop-k-init
loop-k-init c = zero_start _ _

pub loop-k-preserved : goal.loop-k-preserved
loop-k-preserved c = zero_turn c.loop-k.invariant c.loop-k-test.true

pub returns : goal.returns
returns c = zero_all c.loop-k.invariant c.loop-k-test.false
