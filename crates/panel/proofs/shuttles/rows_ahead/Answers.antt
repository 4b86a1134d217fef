-- `panel::shuttles::rows_ahead` meets its contract: each return is one case of the definition. Assumes nothing.
use borrow.Author.Tests.{eq-eqb, ne_eqb}
use Rattle.panel.specs.Private.{rows_ahead}
use Rattle.panel.proofs.shuttles.rows_ahead.Goals as goal

pub returns-then-toward-eq1 : goal.returns-then-toward-eq1
unfolding rows_ahead
returns-then-toward-eq1 c =
    rw (eq-eqb _ _ c.if-toward-eq1.true, c.bit-three.ensures, c.bit-two.ensures, c.bit-one.ensures)

pub returns : goal.returns
unfolding rows_ahead
returns c =
    rw (ne_eqb _ _ c.if-toward-eq1.false, c.bit-three.ensures, c.bit-two.ensures, c.bit-one.ensures)
