use Rattle.report_text.specs.Lines.{report_of}
use Rattle.report_c.proofs.Rooms.{lines_unknown, lines_short, lines_written, text_fits}
use Rattle.report_c.proofs.report_lines.Goals as goal

pub returns-then-not-known : goal.returns-then-not-known
returns-then-not-known c = lines_unknown _ _ _ c.known.ensures c.if-not-known.true-raw c.say.ensures

pub returns-then-totals-lt-TOTALS : goal.returns-then-totals-lt-TOTALS
returns-then-totals-lt-TOTALS c = lines_short _ _ _ c.known.ensures c.if-not-known.false-raw c.if-totals-lt-TOTALS.true c.say-then-totals-lt-TOTALS.ensures

pub put-requires : goal.put-requires
put-requires c = text_fits (report_of c.load-t.result c.full_by.result) _ c.report.ensures

pub returns : goal.returns
returns c = lines_written _ _ _ c.known.ensures c.if-not-known.false-raw c.if-totals-lt-TOTALS.false c.load-t.ensures (rw c.full_by.ensures at c.report.ensures) c.put.ensures
