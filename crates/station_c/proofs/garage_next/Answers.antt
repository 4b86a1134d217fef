-- `station_c::garage_next` meets its contract: too short a room, too few bytes, the lift under a driver, or the next record. Assumes nothing.
use Rattle.station_c.proofs.Asking.{next_short, few, hindered, followed}
use mathlib.Core.Path.{sym, ◌∙◌}
use native.Mathlib.Omega.{arith}
use Rattle.station_c.proofs.garage_next.Goals as goal

pub returns-then-next-lt-RECORD : goal.returns-then-next-lt-RECORD
returns-then-next-lt-RECORD c = next_short _ _ _ c.if-next-lt-RECORD.true c.say.ensures

pub returns-then-five-lt-CODE : goal.returns-then-five-lt-CODE
returns-then-five-lt-CODE c = few _ _ _ (omega (arith, c.if-next-lt-RECORD.false)) c.if-five-lt-CODE.true c.say-then-five-lt-CODE.ensures

pub returns-then-crossing : goal.returns-then-crossing
returns-then-crossing c =
    hindered _ _ _ (omega (arith, c.if-next-lt-RECORD.false)) (omega (arith, c.if-five-lt-CODE.false))
    (sym c.crossing.ensures ∙ c.if-crossing.true) c.say-then-crossing.ensures

pub returns : goal.returns
returns c =
    followed _ _ _
    (omega (arith, c.if-next-lt-RECORD.false))
    (omega (arith, c.if-five-lt-CODE.false))
    (sym c.crossing.ensures
    ∙ c.if-crossing.false)
    c.moved-m.ensures
    c.answer_to.ensures
    c.record_in.ensures
    c.image_bytes.ensures c.say-2.ensures
    c.tell.ensures
