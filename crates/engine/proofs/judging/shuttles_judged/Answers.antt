-- `engine::judging::shuttles_judged` meets its contract: two refusals by the instruction alone, then the row. Assumes nothing.
use Rattle.engine.proofs.Masking.{picked_small}
use native.Mathlib.Omega.{arith}
use mathlib.Core.Path.{◌∙◌}
use borrow.Author.Tests.{eq-eqb, ne_eqb}
use Rattle.engine.proofs.judging.shuttles_judged.Goals as goal

pub returns-then-mask-eq0 : goal.returns-then-mask-eq0
returns-then-mask-eq0 c = rw (eq-eqb _ _ c.if-mask-eq0.true)

pub returns-then-mask-eq5 : goal.returns-then-mask-eq5
returns-then-mask-eq5 c = rw (ne_eqb _ _ c.if-mask-eq0.false, eq-eqb _ _ c.if-mask-eq5.true)

pub overflow_mul-rows : goal.overflow_mul-rows
overflow_mul-rows c = let h = picked_small c.args.mask c.args.a in omega (arith, h)

pub returns : goal.returns
returns c = c.judged.ensures ∙ rw (ne_eqb _ _ c.if-mask-eq0.false, ne_eqb _ _ c.if-mask-eq5.false)
