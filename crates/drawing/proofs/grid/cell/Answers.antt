use borrow.Author.Tests.{eq-eqb, ne_eqb, lt-ltb, le-ltb}
use Rattle.drawing.specs.Private.{cell_at}
use Rattle.drawing.proofs.grid.cell.Goals as goal

pub returns-then-i-eq0 : goal.returns-then-i-eq0
unfolding cell_at
returns-then-i-eq0 c = simp (eq-eqb _ _ c.if-i-eq0.true)

pub returns-then-j-lt10 : goal.returns-then-j-lt10
unfolding cell_at
returns-then-j-lt10 c = simp (ne_eqb _ _ c.if-i-eq0.false, lt-ltb _ _ c.if-j-lt10.true)

pub returns : goal.returns
unfolding cell_at
returns c = simp (ne_eqb _ _ c.if-i-eq0.false, le-ltb _ _ c.if-j-lt10.false)
