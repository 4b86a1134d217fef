-- `desk_c::listing::desk_list` meets its contract: too short, or every car. Assumes nothing.
use Rattle.desk_c.proofs.Rooms.{lines_long, list_short, listed}
use native.Mathlib.Omega.{arith}
use Rattle.desk_c.proofs.listing.desk_list.Goals as goal

pub returns-then-room-lt-DESK : goal.returns-then-room-lt-DESK
returns-then-room-lt-DESK c = list_short _ _ c.if-room-lt-DESK.true c.say.ensures

pub tell_first-requires : goal.tell_first-requires
tell_first-requires c = lines_long c.load-d.result c.list-all.result c.list-all.ensures

pub returns : goal.returns
returns c = listed _ _ (omega (arith, c.if-room-lt-DESK.false)) c.load-d.ensures c.ask.ensures c.list-all.ensures c.count_told.ensures c.tell_first.ensures
