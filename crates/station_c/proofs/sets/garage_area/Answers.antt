-- `station_c::sets::garage_area` meets its contract: too short a room, too few bytes, or by what they say. Assumes nothing.
use Rattle.station_c.proofs.Building.{area_short, area_few, area_told}
use native.Mathlib.Omega.{arith}
use Rattle.station_c.proofs.sets.garage_area.Goals as goal

pub returns-then-area-lt-RECORD : goal.returns-then-area-lt-RECORD
returns-then-area-lt-RECORD c = area_short _ _ c.if-area-lt-RECORD.true c.say.ensures

pub returns-then-five-lt-CODE : goal.returns-then-five-lt-CODE
returns-then-five-lt-CODE c = area_few _ _ (omega (arith, c.if-area-lt-RECORD.false)) c.if-five-lt-CODE.true c.say-then-five-lt-CODE.ensures

pub returns : goal.returns
returns c =
    area_told _ _ (omega (arith, c.if-area-lt-RECORD.false))
    (omega (arith, c.if-five-lt-CODE.false))
    c.area_in-m.ensures
    c.area_said.ensures
    c.area_bits.ensures
    c.image_bytes.ensures c.say-2.ensures
    c.tell.ensures
