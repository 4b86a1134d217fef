use mathlib.Core.Path.{refl}
use Rattle.report_c.proofs.Rooms.{count_short, station_short, count_full, count_written}
use Rattle.report_c.proofs.report_message.Goals as goal

pub returns-then-totals-lt-TOTALS : goal.returns-then-totals-lt-TOTALS
returns-then-totals-lt-TOTALS c = count_short _ _ _ c.if-totals-lt-TOTALS.true c.say.ensures

pub returns-then-station-lt-STATION : goal.returns-then-station-lt-STATION
returns-then-station-lt-STATION c = station_short _ _ _ c.if-totals-lt-TOTALS.false c.if-station-lt-STATION.true c.say-then-station-lt-STATION.ensures

pub returns-in-Some : goal.returns-in-Some
returns-in-Some c = count_full _ _ _ c.if-totals-lt-TOTALS.false c.if-station-lt-STATION.false c.station_of-s.ensures c.load-t.ensures c.count_message.ensures _ c.in-Some.is refl

pub returns : goal.returns
returns c = count_written _ _ _ c.if-totals-lt-TOTALS.false c.if-station-lt-STATION.false c.station_of-s.ensures c.load-t.ensures c.count_message.ensures c.in_default.is c.say-2.ensures c.keep.ensures
