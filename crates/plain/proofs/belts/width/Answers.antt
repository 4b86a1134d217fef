-- `plain::belts::width` meets its contract: each branch is one case. Assumes nothing.
use borrow.Author.Tests.{ne_eqb}
use Rattle.plain.specs.Private.{width}
use Rattle.plain.proofs.belts.width.Goals as goal

pub returns-then-row-eq1 : goal.returns-then-row-eq1
unfolding width
returns-then-row-eq1 c = rw c.if-row-eq1.true

pub returns-else-row-eq1 : goal.returns-else-row-eq1
unfolding width
returns-else-row-eq1 c = rw (ne_eqb _ 1 c.if-row-eq1.false)
