-- `panel_c::panel_next` meets its contract: a chain of refusals, or the next record. Assumes nothing.
use Rattle.panel_c.proofs.Following.{no_room_lem, too_few, not_sound, says_none, next_so}
use Rattle.bits.proofs.Cases.{passed, failed}
use native.Mathlib.Omega.{arith}
use borrow.Author.Rules.{rules}
use Rattle.panel_c.proofs.panel_next.Goals as goal

pub returns-then-next-lt-RECORD : goal.returns-then-next-lt-RECORD
returns-then-next-lt-RECORD c = no_room_lem _ _ _ c.if-next-lt-RECORD.true c.say.ensures

pub returns-then-five-lt-CODE : goal.returns-then-five-lt-CODE
returns-then-five-lt-CODE c = too_few _ _ _ (omega (arith, c.if-next-lt-RECORD.false)) c.if-five-lt-CODE.true c.say-then-five-lt-CODE.ensures

pub returns-then-not-sound : goal.returns-then-not-sound
returns-then-not-sound c = not_sound _ _ _ (omega (arith, c.if-next-lt-RECORD.false))
    (omega (arith, c.if-five-lt-CODE.false)) (failed c.sound.ensures c.if-not-sound.true-raw)
    c.say-then-not-sound.ensures

pub returns-in_default : goal.returns-in_default
returns-in_default c = says_none _ _ _ (omega (arith, c.if-next-lt-RECORD.false))
    (omega (arith, c.if-five-lt-CODE.false))
    (passed c.sound.ensures c.if-not-sound.false-raw)
    c.read_bytes.ensures c.in_default.is c.say-in_default.ensures

pub returns : goal.returns
returns c =
    next_so _ _ _
    (omega (arith, c.if-next-lt-RECORD.false))
    (omega (arith, c.if-five-lt-CODE.false))
    (passed c.sound.ensures
    c.if-not-sound.false-raw)
    c.read_bytes.ensures _
    c.in-Some.is (search rules)
    c.of_image.ensures c.follow.ensures
