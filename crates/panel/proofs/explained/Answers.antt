-- `panel::explained` meets its contract: a condition, if there is one, with its parts. Assumes nothing.
use mathlib.Core.Path.{sym, ap, ap₂, ◌∙◌}
use Rattle.panel.specs.Panel.{with_parts, explained}
use Rattle.panel.proofs.explained.Goals as goal

pub returns-in_err-condition : goal.returns-in_err-condition
unfolding explained
returns-in_err-condition c = c.from_residual.ensures ∙ ap (with_parts _) (sym c.in_err-condition.was ∙ c.condition.ensures)

pub returns : goal.returns
unfolding explained
returns c = ap₂ with_parts c.parts-parts.ensures (sym c.in_ok-condition.was ∙ c.condition.ensures)
