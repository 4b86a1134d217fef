-- `engine::judging::belts_judged` meets its contract: three refusals by the instruction alone, then the row. Assumes nothing.
use native.Mathlib.Omega.{arith}
use Rattle.engine.proofs.Masking.{step_small}
use Rattle.engine.proofs.Ruling.{belts_bounds}
use mathlib.Core.Path.{◌∙◌}
use borrow.Author.Tests.{eq-eqb, ne_eqb}
use Rattle.engine.proofs.judging.belts_judged.Goals as goal

pub returns-then-not-row-size : goal.returns-then-not-row-size
returns-then-not-row-size c = rw c.if-not-row-size.true-raw

pub returns-then-mask-eq0 : goal.returns-then-mask-eq0
returns-then-mask-eq0 c = rw (c.if-not-row-size.false-raw, eq-eqb _ _ c.if-mask-eq0.true)

pub gaps-requires : goal.gaps-requires
gaps-requires c = (belts_bounds c.args.row c.args.mask c.args.toward c.args.size c.requires).0

pub returns-then-gaps : goal.returns-then-gaps
returns-then-gaps c = rw (c.if-not-row-size.false-raw, ne_eqb _ _ c.if-mask-eq0.false, ← c.gaps.ensures, c.if-gaps.true)

pub within-requires : goal.within-requires
within-requires c = ((belts_bounds c.args.row c.args.mask c.args.toward c.args.size c.requires).1, omega (arith, c.step.ensures, step_small c.args.row c.args.size))

pub returns : goal.returns
returns c = c.judged.ensures ∙ rw (c.within.ensures, c.step.ensures, c.if-not-row-size.false-raw, ne_eqb _ _ c.if-mask-eq0.false, ← c.gaps.ensures, c.if-gaps.false)
