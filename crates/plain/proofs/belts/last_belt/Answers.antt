-- `plain::belts::last_belt` meets its contract: each branch is one case. Assumes nothing.
use borrow.Author.Tests.{ne_eqb}
use Rattle.plain.proofs.belts.last_belt.Goals as goal

pub returns-then-row-eq1 : goal.returns-then-row-eq1
returns-then-row-eq1 c = rw c.if-row-eq1.true

pub returns-else-row-eq1 : goal.returns-else-row-eq1
returns-else-row-eq1 c = rw (ne_eqb _ 1 c.if-row-eq1.false)
