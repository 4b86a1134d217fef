-- `station_c::garage_allowed` meets its contract: too few bytes, the lift under a driver, or by what the bytes say. Assumes nothing.
use Rattle.rooms.proofs.Judging.{too_few, under_driver, by_reading}
use Rattle.rooms.specs.Rooms.{returned}
use mathlib.Core.Path.{sym, ap, ◌∙◌}
use native.Mathlib.Omega.{arith}
use Rattle.station_c.proofs.garage_allowed.Goals as goal

pub returns-then-five-lt-CODE : goal.returns-then-five-lt-CODE
returns-then-five-lt-CODE c = too_few _ _ c.if-five-lt-CODE.true c.say.ensures

pub returns-then-crossing : goal.returns-then-crossing
returns-then-crossing c = under_driver _ _ (omega (arith, c.if-five-lt-CODE.false)) (sym c.crossing.ensures ∙ c.if-crossing.true) c.say-then-crossing.ensures

pub returns-in-Some : goal.returns-in-Some
returns-in-Some c =
    by_reading _ _ (omega (arith, c.if-five-lt-CODE.false))
    (sym c.crossing.ensures ∙ c.if-crossing.false)
    c.read_bytes.ensures c.in-Some.is
    (c.say-in-Some.ensures ∙ ap returned c.judged.ensures)

pub returns-in-None : goal.returns-in-None
returns-in-None c =
    by_reading _ _ (omega (arith, c.if-five-lt-CODE.false))
    (sym c.crossing.ensures ∙ c.if-crossing.false)
    c.read_bytes.ensures c.in-None.is c.say-in-None.ensures
