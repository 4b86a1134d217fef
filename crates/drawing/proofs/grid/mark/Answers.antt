use mathlib.Core.Path.{◌∙◌}
use borrow.Author.Tests.{lt-ltb, le-ltb}
use Rattle.drawing.specs.Private.{cell_mark}
use Rattle.drawing.proofs.grid.mark.Goals as goal

pub returns-then-bit : goal.returns-then-bit
unfolding cell_mark
returns-then-bit c = c.occupied.ensures ∙ simp (lt-ltb _ _ c.if-k-lt40.true, ← c.bit.ensures, c.if-bit.true)

pub returns-then-k-lt40 : goal.returns-then-k-lt40
unfolding cell_mark
returns-then-k-lt40 c = simp (lt-ltb _ _ c.if-k-lt40.true, ← c.bit.ensures, c.if-bit.false)

pub returns : goal.returns
unfolding cell_mark
returns c = simp (le-ltb _ _ c.if-k-lt40.false)
