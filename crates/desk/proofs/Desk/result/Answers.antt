-- `desk::Desk::result` meets its contract: the station's own test of fitness stands for the desk's. Assumes nothing.
use mathlib.Core.Path.{ap, ◌∙◌, sym}
use Rattle.station.specs.Calls as station
use Rattle.station.specs.declared.Outcome.{Outcome}
use Rattle.desk.specs.Calls.{desk_holding, desk_following, desk_result}
use Rattle.desk.proofs.Taking.{misfit, through, followed}
use Rattle.desk.proofs.Desk.result.Goals as goal

pub returns-then-not-numbers_fit : goal.returns-then-not-numbers_fit
unfolding desk_result
returns-then-not-numbers_fit c = c.refused.ensures ∙ misfit _ _ (sym c.numbers_fit.ensures ∙ c.if-not-numbers_fit.true)

pub returns : goal.returns
unfolding desk_result station.result
returns c =
    let a = c.args in
    c.following.ensures
    ∙ ap (desk_following a.self c.result.result) c.followed.ensures
    ∙ through a.self _ (λ (x : Outcome). desk_holding x (followed a.self a.report)) c.result.ensures (sym c.numbers_fit.ensures ∙ c.if-not-numbers_fit.false)
