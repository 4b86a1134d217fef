-- `panel::deciding::of_belts` meets its contract: each condition is one case of the definition. Assumes nothing.
use mathlib.Core.Path.{ap, ◌∙◌}
use borrow.Author.Tests.{eq-eqb, ne_eqb}
use Rattle.panel.specs.Private.{cells_alone, end_of, belts_read}
use Rattle.panel.proofs.deciding.of_belts.Goals as goal

pub returns-in-3 : goal.returns-in-3
unfolding belts_read
returns-in-3 c = rw c.in-3.is

pub returns-in-4 : goal.returns-in-4
unfolding belts_read
returns-in-4 c =
    let a = c.args in
    let e = c.end.ensures ∙ ap (end_of a.area.cells a.toward) c.step.ensures in
    rw c.in-4.is (c.cells_alone.ensures ∙ ap cells_alone e)

pub returns-then-row-eq1 : goal.returns-then-row-eq1
unfolding belts_read
returns-then-row-eq1 c = rw (c.in-5.is, eq-eqb _ _ c.if-row-eq1.true) c.cells_alone-then-row-eq1.ensures

pub returns-else-row-eq1 : goal.returns-else-row-eq1
unfolding belts_read
returns-else-row-eq1 c = rw (c.in-5.is, ne_eqb _ _ c.if-row-eq1.false) c.nothing.ensures

pub returns-in_default : goal.returns-in_default
unfolding belts_read
returns-in_default c = let r = c.in_default.in_default-own.rest in c.nothing-in_default.ensures ∙ simp (ne_eqb _ _ r.0.0.1, ne_eqb _ _ r.0.1, ne_eqb _ _ r.1)
