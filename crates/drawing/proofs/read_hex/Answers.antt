use mathlib.Core.Path.{sym, ◌∙◌}
use Rattle.drawing.proofs.Sixteen.{too_many, not_count, not_digits, all_said}
use Rattle.drawing.proofs.read_hex.Goals as goal

pub returns-in_err-held : goal.returns-in_err-held
returns-in_err-held c = c.from_residual.ensures ∙ too_many _ c.in_err-held.ensures

pub returns-then-not-is_count : goal.returns-then-not-is_count
returns-then-not-is_count c = not_count _ c.in_ok-held.ensures (sym c.is_count.ensures ∙ c.if-not-is_count.true)

pub returns-then-all_digits : goal.returns-then-all_digits
returns-then-all_digits c =
    all_said _ c.in_ok-held.ensures (sym c.is_count.ensures ∙ c.if-not-is_count.false)
    c.all_digits.ensures c.if-all_digits.true c.said.ensures

pub returns : goal.returns
returns c =
    not_digits _ c.in_ok-held.ensures (sym c.is_count.ensures ∙ c.if-not-is_count.false)
    c.all_digits.ensures c.if-all_digits.false
