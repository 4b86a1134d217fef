-- `plan::succeeded` meets its contract: each turn is one success more. Assumes nothing.
use Rattle.std.proofs.Common.{◌-◌, arith}
use Rattle.plan.proofs.Walking.{none_done, one_done, all_done}
use Rattle.plan.proofs.succeeded.Goals as goal

pub loop-i-init : goal.loop-i-init
loop-i-init c = (none_done _, omega arith)

pub loop-i-preserved : goal.loop-i-preserved
loop-i-preserved c = (one_done _ _ c.loop-i.invariant.0 c.done-s.ensures, omega arith)

pub returns : goal.returns
returns c = all_done _ _ _ c.loop-i.invariant.0 (omega arith)
