use Rattle.report_c.proofs.Rooms.{start_short, start_written}
use Rattle.report_c.proofs.report_start.Goals as goal

pub returns-then-totals-lt-TOTALS : goal.returns-then-totals-lt-TOTALS
returns-then-totals-lt-TOTALS c = start_short _ c.if-totals-lt-TOTALS.true c.say.ensures

pub returns : goal.returns
returns c = start_written _ c.if-totals-lt-TOTALS.false c.say-2.ensures c.keep.ensures
