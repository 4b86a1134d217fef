-- `desk_c::desk_ask` meets its contract: either room too short, or the image. Assumes nothing.
use Rattle.desk_c.proofs.Rooms.{ask_short, image_short, asked}
use native.Mathlib.Omega.{arith}
use Rattle.desk_c.proofs.desk_ask.Goals as goal

pub returns-then-room-lt-DESK : goal.returns-then-room-lt-DESK
returns-then-room-lt-DESK c = ask_short _ _ c.if-room-lt-DESK.true c.say.ensures

pub returns-then-image-lt-IMAGE : goal.returns-then-image-lt-IMAGE
returns-then-image-lt-IMAGE c = image_short _ _ (omega (arith, c.if-room-lt-DESK.false)) c.if-image-lt-IMAGE.true c.say-then-image-lt-IMAGE.ensures

pub returns : goal.returns
returns c = asked _ _ (omega (arith, c.if-room-lt-DESK.false)) (omega (arith, c.if-image-lt-IMAGE.false)) c.load-d.ensures c.ask.ensures c.image_in-b.ensures c.told.ensures c.tell.ensures
