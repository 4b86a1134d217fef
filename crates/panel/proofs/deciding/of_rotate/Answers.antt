-- `panel::deciding::of_rotate` meets its contract: each condition is one case of the definition. Assumes nothing.
use mathlib.Core.Path.{◌∙◌}
use borrow.Author.Tests.{ne_eqb}
use Rattle.panel.specs.Private.{rotate_read}
use Rattle.panel.proofs.deciding.of_rotate.Goals as goal

pub returns-in-0 : goal.returns-in-0
unfolding rotate_read
returns-in-0 c = rw c.in-0.is c.lift_with.ensures

pub returns-in-1 : goal.returns-in-1
unfolding rotate_read
returns-in-1 c = rw c.in-1.is c.cells_alone.ensures

pub returns-in_default : goal.returns-in_default
unfolding rotate_read
returns-in_default c = let r = c.in_default.in_default-own.rest in c.nothing.ensures ∙ simp (ne_eqb _ _ r.0.1, ne_eqb _ _ r.1)
