-- `desk::Desk::begun` meets its contract: zero, in the garage, or new. Assumes nothing.
use mathlib.Core.Path.{ap, sym, ◌∙◌}
use Rattle.desk.specs.Calls.{desk_holding}
use Rattle.desk.proofs.Taking.{begun_zero, begun_known, begun_new}
use Rattle.desk.proofs.Desk.begun.Goals as goal

pub returns-then-card-eq0 : goal.returns-then-card-eq0
returns-then-card-eq0 c = c.refused.ensures ∙ begun_zero _ _ _ c.if-card-eq0.true

pub returns-then-known : goal.returns-then-known
returns-then-known c =
    c.refused-then-known.ensures
    ∙ begun_known _ _ _ c.if-card-eq0.false (sym c.known.ensures ∙ c.if-known.true)

pub returns : goal.returns
returns c =
    c.holding.ensures
    ∙ ap (desk_holding _) c.numbers_driven.ensures
    ∙ begun_new _ _ _ c.if-card-eq0.false (sym c.known.ensures ∙ c.if-known.false)
