-- `plain::belts::from_end` meets its contract: each branch is one case. Assumes nothing.
use native.Mathlib.Omega.{arith}
use borrow.Author.Tests.{ne_eqb}
use Rattle.plain.specs.Private.{row_from_end}
use Rattle.plain.proofs.Spans.{row_bounds}
use Rattle.plain.proofs.belts.from_end.Goals as goal

pub overflow_add-result : goal.overflow_add-result
overflow_add-result c = omega (arith, c.first_cell-first.ensures, c.width.ensures, row_bounds c.args.row)

pub overflow_sub-result : goal.overflow_sub-result
overflow_sub-result c = omega (arith, c.first_cell-first.ensures, c.width.ensures, row_bounds c.args.row)

pub overflow_sub-result-then-toward-eq1 : goal.overflow_sub-result-then-toward-eq1
overflow_sub-result-then-toward-eq1 c = omega (arith, c.first_cell-first.ensures, c.width.ensures, row_bounds c.args.row)

pub returns-then-toward-eq1 : goal.returns-then-toward-eq1
unfolding row_from_end
returns-then-toward-eq1 c = rw (c.if-toward-eq1.true, ← c.first_cell-first.ensures, ← c.width.ensures)

pub overflow_add-result-2 : goal.overflow_add-result-2
overflow_add-result-2 c = omega (arith, c.first_cell-first.ensures, row_bounds c.args.row)

pub returns : goal.returns
unfolding row_from_end
returns c = rw (ne_eqb _ 1 c.if-toward-eq1.false, ← c.first_cell-first.ensures)
