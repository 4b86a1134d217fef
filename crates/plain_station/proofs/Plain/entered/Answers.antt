-- `plain_station::Plain::entered` meets its contract: possible, and a place is open by the cars of a walk. Assumes nothing.
use Rattle.plain_station.proofs.Outcomes.{impossible, kept_open, driven_there}
use Rattle.std.proofs.Common.{refl}
use Rattle.plain_station.proofs.Plain.entered.Goals as goal

pub returns-then-not-possible : goal.returns-then-not-possible
returns-then-not-possible c = impossible _ _ c.possible.ensures c.if-not-possible.true-raw refl

pub returns-then-not-opens : goal.returns-then-not-opens
returns-then-not-opens c = kept_open _ _ c.possible.ensures c.if-not-possible.false-raw
    c.walk.ensures c.opens.ensures c.if-not-opens.true-raw refl

pub returns : goal.returns
returns c = driven_there _ _ c.possible.ensures
    c.if-not-possible.false-raw
    c.walk.ensures c.opens.ensures
    c.if-not-opens.false-raw c.driven.ensures
