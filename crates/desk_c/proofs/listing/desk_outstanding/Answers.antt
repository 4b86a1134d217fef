-- `desk_c::listing::desk_outstanding` meets its contract: either room too short, or what is outstanding. Assumes nothing.
use Rattle.desk_c.proofs.Rooms.{open_short, open_no_room, opened}
use native.Mathlib.Omega.{arith}
use Rattle.desk_c.proofs.listing.desk_outstanding.Goals as goal

pub returns-then-room-lt-DESK : goal.returns-then-room-lt-DESK
returns-then-room-lt-DESK c = open_short _ _ c.if-room-lt-DESK.true c.say.ensures

pub returns-then-set-lt-OPEN : goal.returns-then-set-lt-OPEN
returns-then-set-lt-OPEN c = open_no_room _ _ (omega (arith, c.if-room-lt-DESK.false)) c.if-set-lt-OPEN.true c.say-then-set-lt-OPEN.ensures

pub returns : goal.returns
returns c = opened _ _ (omega (arith, c.if-room-lt-DESK.false)) (omega (arith, c.if-set-lt-OPEN.false)) c.load-d.ensures c.ask.ensures c.outstanding.ensures c.open_bytes-b.ensures (omega arith) c.told.ensures c.tell.ensures
