-- `desk_c::desk_where` meets its contract: too short, or what is told of the card. Assumes nothing.
use Rattle.desk_c.proofs.Rooms.{where_short, where_said_lem}
use native.Mathlib.Omega.{arith}
use Rattle.desk_c.proofs.desk_where.Goals as goal

pub returns-then-room-lt-DESK : goal.returns-then-room-lt-DESK
returns-then-room-lt-DESK c = where_short _ _ c.if-room-lt-DESK.true c.say.ensures

pub returns : goal.returns
returns c = where_said_lem _ _ (omega (arith, c.if-room-lt-DESK.false)) c.load.ensures c.whereabouts.ensures c.place_told.ensures
