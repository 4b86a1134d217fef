use mathlib.Core.Path.{◌∙◌, sym}
use borrow.Author.Tests.{eq-eqb, ne_eqb}
use Rattle.desk_service.proofs.shown.Goals as goal

pub returns-then-number-ne0 : goal.returns-then-number-ne0
returns-then-number-ne0 c = c.called.ensures ∙ simp (ne_eqb _ _ (rw c.number.ensures at c.if-number-ne0.true))

pub returns : goal.returns
returns c = simp (eq-eqb _ _ (sym c.number.ensures ∙ c.if-number-ne0.false))
