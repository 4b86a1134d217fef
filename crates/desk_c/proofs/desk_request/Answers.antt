-- `desk_c::desk_request` meets its contract: as every call. Assumes nothing.
use Rattle.desk_c.proofs.Rooms.{short, entered}
use native.Mathlib.Omega.{arith}
use Rattle.desk_c.proofs.desk_request.Goals as goal

pub returns-then-room-lt-DESK : goal.returns-then-room-lt-DESK
returns-then-room-lt-DESK c = short _ _ c.if-room-lt-DESK.true c.say.ensures

pub returns : goal.returns
returns c = entered _ _ (omega (arith, c.if-room-lt-DESK.false)) c.load.ensures c.requested-o.ensures c.keep.ensures
