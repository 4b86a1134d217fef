-- `desk::Desk::event` meets its contract: what the station says comes first. Assumes nothing.
use mathlib.Core.Path.{ap, ◌∙◌, sym}
use Rattle.station.specs.Calls as station
use Rattle.station.specs.declared.Outcome.{Outcome}
use Rattle.desk.specs.Calls.{desk_holding, desk_event}
use Rattle.desk.proofs.Taking.{misfit, turned_down, goes_on, occurs, occurs_begin, occurs_other}
use Rattle.desk.proofs.Desk.event.Goals as goal

pub returns-then-not-numbers_fit : goal.returns-then-not-numbers_fit
unfolding desk_event
returns-then-not-numbers_fit c = c.refused.ensures ∙ misfit _ _ (sym c.numbers_fit.ensures ∙ c.if-not-numbers_fit.true)

pub returns-then-not-is_taken : goal.returns-then-not-is_taken
unfolding desk_event station.event
returns-then-not-is_taken c =
    let a = c.args in
    c.refused-then-not-is_taken.ensures
    ∙ turned_down a.self _ (λ (x : Outcome). occurs a.self x a.card a.way) c.event-o.ensures (sym c.numbers_fit.ensures ∙ c.if-not-numbers_fit.false) (sym c.is_taken.ensures ∙ c.if-not-is_taken.true)

pub returns-then-way-eq-BEGIN_IN : goal.returns-then-way-eq-BEGIN_IN
unfolding desk_event station.event
returns-then-way-eq-BEGIN_IN c =
    let a = c.args in
    c.begun.ensures
    ∙ occurs_begin _ _ _ a.way c.if-way-eq-BEGIN_IN.true
    ∙ goes_on a.self _ (λ (x : Outcome). occurs a.self x a.card a.way) c.event-o.ensures (sym c.numbers_fit.ensures ∙ c.if-not-numbers_fit.false) (sym c.is_taken.ensures ∙ c.if-not-is_taken.false)

pub returns : goal.returns
unfolding desk_event station.event
returns c =
    let a = c.args in
    c.holding.ensures
    ∙ ap (desk_holding _) c.passed.ensures
    ∙ occurs_other a.self _ a.card a.way c.if-way-eq-BEGIN_IN.false
    ∙ goes_on a.self _ (λ (x : Outcome). occurs a.self x a.card a.way) c.event-o.ensures (sym c.numbers_fit.ensures ∙ c.if-not-numbers_fit.false) (sym c.is_taken.ensures ∙ c.if-not-is_taken.false)
