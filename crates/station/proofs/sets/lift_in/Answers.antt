-- `station::sets::lift_in` meets its contract: none so far. Assumes nothing.
use Rattle.std.proofs.Common.{sym, ap, ◌∙◌, arith}
use Rattle.station.specs.Held.{lift_in}
use Rattle.station.proofs.Areas.{lift_none, lift_here, lift_past}
use Rattle.station.proofs.sets.lift_in.Goals as goal

pub loop-i-init : goal.loop-i-init
loop-i-init c = (lift_none _, omega arith)

pub returns-then-has_lift : goal.returns-then-has_lift
returns-then-has_lift c = let a = c.args in lift_here a.set.now c.loop-i.i c.code_at.ensures c.has_lift.ensures a.n (omega arith) c.if-has_lift.true

pub loop-i-preserved : goal.loop-i-preserved
loop-i-preserved c = (lift_past _ c.loop-i.i c.code_at.ensures c.has_lift.ensures c.if-has_lift.false c.loop-i.invariant.0, omega arith)

pub returns : goal.returns
returns c = sym c.loop-i.invariant.0 ∙ ap (lift_in _) (omega arith)
