-- `panel_c::panel_cars` meets its contract: too short a room, an unsound record, or the cars. Assumes nothing.
use Rattle.panel_c.proofs.Rooms.{no_room_to_walk, no_walk, walked_so}
use Rattle.bits.proofs.Cases.{passed, failed}
use native.Mathlib.Omega.{arith}
use borrow.Author.Rules.{rules}
use Rattle.std.proofs.Common.{◌≡◌, length}
use Rattle.panel_c.proofs.panel_cars.Goals as goal

pub returns-then-room-lt-CARS : goal.returns-then-room-lt-CARS
returns-then-room-lt-CARS c = no_room_to_walk _ _ c.if-room-lt-CARS.true c.say.ensures

pub returns-then-not-sound : goal.returns-then-not-sound
returns-then-not-sound c = no_walk _ _ (omega (arith, c.if-room-lt-CARS.false)) (failed c.sound.ensures c.if-not-sound.true-raw) c.say-then-not-sound.ensures

pub returns : goal.returns
returns c =
    let e = c.say-2.ensures in
    let l : length c.walk-walk.result.starts ≡ 31 = search rules in
    walked_so _ _
    (omega (arith, c.if-room-lt-CARS.false))
    (search rules)
    (passed c.sound.ensures c.if-not-sound.false-raw)
    c.of_image-f.ensures
    c.walk-walk.ensures l
    (c.copy.ensures.all (omega (arith, c.if-room-lt-CARS.false))).1 (omega (arith, e))
