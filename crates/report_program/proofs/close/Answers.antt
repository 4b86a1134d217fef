-- `report_program::close` meets its contract. Assumes nothing.
use Rattle.report_program.proofs.Turning.{as_close_turn}
use Rattle.report_program.proofs.close.Goals as goal

pub returns : goal.returns
returns c = as_close_turn _ _ c.args.buf.now c.args.have c.count_end-full.ensures
