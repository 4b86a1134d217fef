-- `desk::Desk::compare` meets its contract: by the image's reply. Assumes nothing.
use mathlib.Core.Path.{sym, ◌∙◌}
use Rattle.desk.proofs.Laying.{compared_refused, compared_taken}
use Rattle.desk.proofs.Desk.compare.Goals as goal

pub returns-then-number-ne0 : goal.returns-then-number-ne0
returns-then-number-ne0 c = compared_refused _ _ _ _ c.image-o.ensures (λ z. c.if-number-ne0.true (c.number.ensures ∙ z)) c.no_lines.ensures

pub returns : goal.returns
returns c =
    compared_taken _ _ _ _ c.image-o.ensures
    (sym c.number.ensures ∙ c.if-number-ne0.false) c.changed.ensures
