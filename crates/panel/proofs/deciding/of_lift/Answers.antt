-- `panel::deciding::of_lift` meets its contract: each condition is one case of the definition. Assumes nothing.
use mathlib.Core.Path.{ap, ◌∙◌}
use borrow.Author.Tests.{ne_eqb}
use Rattle.panel.specs.Private.{lift_with, lift_read}
use Rattle.panel.proofs.deciding.of_lift.Goals as goal

pub returns-in-0 : goal.returns-in-0
unfolding lift_read
returns-in-0 c = rw c.in-0.is c.lift_with.ensures

pub returns-in-1 : goal.returns-in-1
unfolding lift_read
returns-in-1 c = rw c.in-1.is (c.lift_with-in-1.ensures ∙ ap lift_with c.row_one.ensures)

pub returns-in_default : goal.returns-in_default
unfolding lift_read
returns-in_default c = let r = c.in_default.in_default-own.rest in c.nothing.ensures ∙ simp (ne_eqb _ _ r.0.1, ne_eqb _ _ r.1)
