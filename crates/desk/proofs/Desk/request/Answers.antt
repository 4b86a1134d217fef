-- `desk::Desk::request` meets its contract: the station's own test of fitness stands for the desk's. Assumes nothing.
use mathlib.Core.Path.{◌∙◌, sym}
use Rattle.station.specs.Calls as station
use Rattle.station.specs.declared.Outcome.{Outcome}
use Rattle.desk.specs.Calls.{desk_holding, desk_request}
use Rattle.desk.proofs.Taking.{misfit, through}
use Rattle.desk.proofs.Desk.request.Goals as goal

pub returns-then-not-numbers_fit : goal.returns-then-not-numbers_fit
unfolding desk_request
returns-then-not-numbers_fit c = c.refused.ensures ∙ misfit _ _ (sym c.numbers_fit.ensures ∙ c.if-not-numbers_fit.true)

pub returns : goal.returns
unfolding desk_request station.request
returns c =
    let a = c.args in
    c.following.ensures
    ∙ through a.self _ (λ (x : Outcome). desk_holding x a.self.numbers) c.request.ensures (sym c.numbers_fit.ensures ∙ c.if-not-numbers_fit.false)
