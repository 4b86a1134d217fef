-- `desk_c::listing::desk_compare` meets its contract: too short, or what would change. Assumes nothing.
use Rattle.desk_c.proofs.Rooms.{compare_short, was_compared}
use native.Mathlib.Omega.{arith}
use Rattle.desk_c.proofs.listing.desk_compare.Goals as goal

pub returns-then-room-lt-DESK : goal.returns-then-room-lt-DESK
returns-then-room-lt-DESK c = compare_short _ _ _ c.if-room-lt-DESK.true c.say.ensures

pub returns : goal.returns
returns c = was_compared _ _ _ (omega (arith, c.if-room-lt-DESK.false)) c.load.ensures c.compared-c.ensures c.count_told.ensures c.tell.ensures
