use mathlib.Core.Path.{sym, ◌∙◌}
use Rattle.std.proofs.lemmas.Result.{err_from_is_err_and}
use Rattle.drawing.proofs.Drawn.{no_drawing, is_read, read_unsound}
use Rattle.drawing.proofs.read.Goals as goal

pub returns-in_err-lift : goal.returns-in_err-lift
returns-in_err-lift c =
    let p = err_from_is_err_and c.from_residual.result c.from_residual.ensures.1 in
    rw (p.1, p.2) (no_drawing _ _ (sym c.in_err-lift.was ∙ c.first_bad.ensures))

pub returns-then-has_drawing : goal.returns-then-has_drawing
returns-then-has_drawing c =
    is_read _ _ (sym c.in_ok-lift.was ∙ c.first_bad.ensures)
    c.grid_in-g.ensures c.image_in-bits.ensures c.has_drawing.ensures c.if-has_drawing.true

pub returns : goal.returns
returns c =
    read_unsound _ _ (sym c.in_ok-lift.was ∙ c.first_bad.ensures)
    c.grid_in-g.ensures c.image_in-bits.ensures c.has_drawing.ensures c.if-has_drawing.false
