-- `week::told` meets its contract: an event, a result, or any other kind. Assumes nothing.
use Rattle.week.proofs.Telling.{told_done, told_event, told_result, told_other}
use Rattle.week.proofs.told.Goals as goal

pub returns-then-way-eq3 : goal.returns-then-way-eq3
returns-then-way-eq3 c = let a = c.args in told_done a.s a.m.now _ _ c.if-kind-eq2.true c.byte-way.ensures c.if-way-eq3.true c.drive_on-drive.ensures

pub returns-else-way-eq3 : goal.returns-else-way-eq3
returns-else-way-eq3 c = let a = c.args in told_event a.s a.m.now _ c.if-kind-eq2.true c.byte-way.ensures c.if-way-eq3.false

pub returns-then-kind-eq3 : goal.returns-then-kind-eq3
returns-then-kind-eq3 c = let a = c.args in told_result a.s a.m.now _ _ _ c.if-kind-eq3.true c.op_at.ensures c.byte.ensures c.byte-then-kind-eq3.ensures

pub returns : goal.returns
returns c = let a = c.args in told_other a.s a.m.now c.if-kind-eq2.false c.if-kind-eq3.false
