-- `panel::shuttles::of_shuttles` meets its contract: each condition is one case of the definition. Assumes nothing.
use mathlib.Core.Path.{ap, ◌∙◌}
use borrow.Author.Tests.{ne_eqb}
use Rattle.panel.specs.Private.{cells_alone, slots_alone, slots_of_rows, shuttles_read}
use Rattle.panel.proofs.shuttles.of_shuttles.Goals as goal

pub returns-in-2 : goal.returns-in-2
unfolding shuttles_read
returns-in-2 c =
    let a = c.args in
    let e = c.slots_in.ensures ∙ ap (slots_of_rows a.side a.orientation) c.rows_named.ensures in
    rw c.in-2.is (c.slots_alone.ensures ∙ ap slots_alone e)

pub returns-then-orientation-bit : goal.returns-then-orientation-bit
unfolding shuttles_read
returns-then-orientation-bit c =
    rw (c.in-3.is, ← c.bit.ensures, c.if-orientation-bit.true)
    (c.cells_alone.ensures ∙ ap cells_alone c.shuttle_cells.ensures)

pub returns-else-orientation-bit : goal.returns-else-orientation-bit
unfolding shuttles_read
returns-else-orientation-bit c =
    rw (c.in-3.is, ← c.bit.ensures, c.if-orientation-bit.false) c.nothing.ensures

pub returns-in-4 : goal.returns-in-4
unfolding shuttles_read
returns-in-4 c =
    let a = c.args in
    let e = c.slots_in-in-4.ensures ∙ ap (slots_of_rows a.side a.orientation) c.rows_ahead.ensures in
    rw c.in-4.is (c.slots_alone-in-4.ensures ∙ ap slots_alone e)

pub returns-in_default : goal.returns-in_default
unfolding shuttles_read
returns-in_default c = let r = c.in_default.in_default-own.rest in c.nothing-in_default.ensures ∙ simp (ne_eqb _ _ r.0.0.1, ne_eqb _ _ r.0.1, ne_eqb _ _ r.1)
