-- `plain::step` meets its contract: each branch is one case. Assumes nothing.
use Rattle.plain.proofs.step.Goals as goal

pub returns-then-row-size : goal.returns-then-row-size
returns-then-row-size c = rw c.if-row-size.true

pub returns-else-row-size : goal.returns-else-row-size
returns-else-row-size c = rw c.if-row-size.false
