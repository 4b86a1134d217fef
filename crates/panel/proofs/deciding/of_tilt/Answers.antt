-- `panel::deciding::of_tilt` meets its contract: each condition is one case of the definition. Assumes nothing.
use mathlib.Core.Path.{ap, ◌∙◌}
use borrow.Author.Tests.{eq-eqb, ne_eqb}
use Rattle.panel.specs.Private.{slots_alone, slots_of_rows, tilt_read}
use Rattle.panel.proofs.deciding.of_tilt.Goals as goal

pub returns-in-0 : goal.returns-in-0
unfolding tilt_read
returns-in-0 c =
    rw (eq-eqb _ _ c.if-orientation-eq0.true, c.in-0.is) (c.slots_alone.ensures ∙ ap slots_alone c.slots_in.ensures)

pub returns-in-1 : goal.returns-in-1
unfolding tilt_read
returns-in-1 c = rw (eq-eqb _ _ c.if-orientation-eq0.true, c.in-1.is) c.cells_alone.ensures

pub returns-in_default : goal.returns-in_default
unfolding tilt_read
returns-in_default c =
    let r = c.in_default.in_default-own.rest in
    c.nothing.ensures ∙ simp (eq-eqb _ _ c.if-orientation-eq0.true, ne_eqb _ _ r.0.1, ne_eqb _ _ r.1)

pub returns-in-0-c : goal.returns-in-0-c
unfolding tilt_read
returns-in-0-c c =
    let a = c.args in
    let e = c.slots_in-in-0-c.ensures ∙ ap (slots_of_rows a.side 1) c.row_alone.ensures in
    rw (ne_eqb _ _ c.if-orientation-eq0.false, c.in-0-c.is) (c.slots_alone-in-0-c.ensures ∙ ap slots_alone e)

pub returns-in-1-c : goal.returns-in-1-c
unfolding tilt_read
returns-in-1-c c =
    let a = c.args in
    let e = c.slots_in-in-1-c.ensures ∙ ap (slots_of_rows a.side 0) c.row_alone-in-1-c.ensures in
    rw (ne_eqb _ _ c.if-orientation-eq0.false, c.in-1-c.is) (c.slots_alone-in-1-c.ensures ∙ ap slots_alone e)

pub returns-in_default-c : goal.returns-in_default-c
unfolding tilt_read
returns-in_default-c c =
    let r = c.in_default-c.in_default-c-own.rest in
    c.nothing-in_default-c.ensures ∙ simp (ne_eqb _ _ c.if-orientation-eq0.false, ne_eqb _ _ r.0.1, ne_eqb _ _ r.1)
