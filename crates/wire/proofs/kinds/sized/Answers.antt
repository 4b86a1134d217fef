use borrow.Author.Tests.{ne_eqb, eq-eqb}
use mathlib.Core.Path.{◌∙◌}
use Rattle.wire.proofs.kinds.sized.Goals as goal

pub returns-then-used-n : goal.returns-then-used-n
returns-then-used-n c = c.refused.ensures ∙ simp (ne_eqb _ _ c.if-used-n.true)

pub returns-then-in_range : goal.returns-then-in_range
returns-then-in_range c = rw c.plain-message.ensures (simp (eq-eqb _ _ c.if-used-n.false, ← c.in_range.ensures, c.if-in_range.true))

pub returns : goal.returns
returns c = c.refused-2.ensures ∙ simp (eq-eqb _ _ c.if-used-n.false, ← c.in_range.ensures, c.if-in_range.false)
