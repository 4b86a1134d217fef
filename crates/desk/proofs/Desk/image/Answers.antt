-- `desk::Desk::image` meets its contract: what the station says comes first. Assumes nothing.
use mathlib.Core.Path.{◌∙◌, sym}
use Rattle.station.specs.Calls as station
use Rattle.station.specs.declared.Outcome.{Outcome}
use Rattle.cards.specs.Held.{cards_given}
use Rattle.cards.specs.Given.{given_as}
use Rattle.desk.specs.Calls.{offered, desk_take_image}
use Rattle.desk.proofs.Taking.{misfit, turned_down, goes_on}
use Rattle.desk.proofs.Desk.image.Goals as goal

pub returns-then-not-numbers_fit : goal.returns-then-not-numbers_fit
unfolding desk_take_image
returns-then-not-numbers_fit c = c.refused.ensures ∙ misfit _ _ (sym c.numbers_fit.ensures ∙ c.if-not-numbers_fit.true)

pub returns-then-not-is_taken : goal.returns-then-not-is_taken
unfolding desk_take_image station.take_image
returns-then-not-is_taken c =
    let a = c.args in
    c.refused-then-not-is_taken.ensures
    ∙ turned_down a.self _ (λ (x : Outcome). offered a.self x (cards_given a.picture.bits a.given) (given_as a.picture.bits a.count a.given)) c.image-o.ensures (sym c.numbers_fit.ensures ∙ c.if-not-numbers_fit.false) (sym c.is_taken.ensures ∙ c.if-not-is_taken.true)

pub returns : goal.returns
unfolding desk_take_image station.take_image
returns c =
    let a = c.args in
    c.offered.ensures
    ∙ goes_on a.self _ (λ (x : Outcome). offered a.self x (cards_given a.picture.bits a.given) (given_as a.picture.bits a.count a.given)) c.image-o.ensures (sym c.numbers_fit.ensures ∙ c.if-not-numbers_fit.false) (sym c.is_taken.ensures ∙ c.if-not-is_taken.false)
