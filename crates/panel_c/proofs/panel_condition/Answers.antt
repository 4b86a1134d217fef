-- `panel_c::panel_condition` meets its contract: a chain of refusals, or the condition. Assumes nothing.
use Rattle.panel_c.proofs.Rooms.{no_room_lem, too_few, says_none, not_sound, told_so}
use Rattle.bits.proofs.Cases.{passed, failed}
use native.Mathlib.Omega.{arith}
use borrow.Author.Rules.{rules}
use Rattle.panel_c.proofs.panel_condition.Goals as goal

pub returns-then-room-lt-CONDITION : goal.returns-then-room-lt-CONDITION
returns-then-room-lt-CONDITION c = no_room_lem _ _ _ _ c.if-room-lt-CONDITION.true c.say.ensures

pub returns-then-five-lt-CODE : goal.returns-then-five-lt-CODE
returns-then-five-lt-CODE c = too_few _ _ _ _ (omega (arith, c.if-room-lt-CONDITION.false)) c.if-five-lt-CODE.true c.say-then-five-lt-CODE.ensures

pub returns-in_default : goal.returns-in_default
returns-in_default c = says_none _ _ _ _ (omega (arith, c.if-room-lt-CONDITION.false))
    (omega (arith, c.if-five-lt-CODE.false)) c.read_bytes.ensures
    c.in_default.is c.say-in_default.ensures

pub returns-then-not-sound : goal.returns-then-not-sound
returns-then-not-sound c = not_sound _ _ _ _ (omega (arith, c.if-room-lt-CONDITION.false))
    (omega (arith, c.if-five-lt-CODE.false))
    c.read_bytes.ensures _ c.in-Some.is
    (failed c.sound.ensures c.if-not-sound.true-raw) c.say-then-not-sound.ensures

pub returns : goal.returns
returns c =
    told_so _ _ _ _
    (omega (arith, c.if-room-lt-CONDITION.false))
    (omega (arith, c.if-five-lt-CODE.false))
    c.read_bytes.ensures _
    c.in-Some.is (search rules)
    (passed c.sound.ensures c.if-not-sound.false-raw)
    c.of_image.ensures c.explain.ensures
