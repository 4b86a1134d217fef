-- `engine::judging::tilt_judged` meets its contract, by orientation. Assumes nothing.
use mathlib.Core.Path.{◌∙◌}
use borrow.Author.Tests.{eq-eqb, ne_eqb}
use Rattle.engine.proofs.judging.tilt_judged.Goals as goal

pub returns-then-orientation-eq0 : goal.returns-then-orientation-eq0
returns-then-orientation-eq0 c = c.judged.ensures ∙ rw (eq-eqb _ _ c.if-orientation-eq0.true)

pub returns : goal.returns
returns c = c.judged-2.ensures ∙ rw (ne_eqb _ _ c.if-orientation-eq0.false)
