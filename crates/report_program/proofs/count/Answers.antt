-- `report_program::count` meets its contract. Assumes nothing.
use Rattle.report_program.proofs.Turning.{as_count_turn, held_short}
use Rattle.report_program.proofs.count.Goals as goal

pub returns : goal.returns
returns c =
    let turned = as_count_turn _ _ c.args.buf.now c.args.end c.count_all-w.ensures c.hold.ensures in
    (held_short _ _ c.args.buf.now c.args.end turned, turned)
