-- `plan::size` meets its contract: each turn is one set more. Assumes nothing.
use Rattle.std.proofs.Common.{arith}
use Rattle.plan.proofs.Walking.{sized_start, sized_turn, sized_end}
use Rattle.plan.proofs.size.Goals as goal

pub loop-k-init : goal.loop-k-init
loop-k-init c = sized_start _ _

pub overflow_add-at : goal.overflow_add-at
overflow_add-at c = omega (arith, c.loop-k.invariant.few)

pub overflow_add-at-in-loop-k : goal.overflow_add-at-in-loop-k
overflow_add-at-in-loop-k c = omega (arith, c.loop-k.invariant.few)

pub loop-k-preserved : goal.loop-k-preserved
loop-k-preserved c = sized_turn _ c.loop-k.invariant (omega arith) c.byte-count.ensures (omega arith)

pub returns : goal.returns
returns c = sized_end c.loop-k.invariant c.byte-n.ensures (omega arith)
