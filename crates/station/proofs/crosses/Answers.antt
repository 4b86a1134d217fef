-- `station::crosses` meets its contract: the area is looked at only while a drive is under way. Assumes nothing.
use Rattle.station.proofs.Areas.{held_lift}
use Rattle.station.specs.Held.{crosses}
use Rattle.bits.proofs.Cases.{failed, passed}
use Rattle.std.proofs.Common.{sym}
use Rattle.station.proofs.crosses.Goals as goal

pub returns-then-not-under_way : goal.returns-then-not-under_way
unfolding crosses
returns-then-not-under_way c = rw (failed c.under_way.ensures c.if-not-under_way.true-raw)

pub returns : goal.returns
unfolding crosses
returns c = rw (passed c.under_way.ensures c.if-not-under_way.false-raw, c.area.ensures) (sym (held_lift _))
