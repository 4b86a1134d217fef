-- `plain_moves::under_way` meets its contract: one of two bits is set (proofs/Driving.antt). Assumes nothing.
use Rattle.plain_moves.proofs.Driving.{under_way_lem}
use Rattle.plain_moves.proofs.under_way.Goals as goal

pub returns : goal.returns
returns c = under_way_lem c.args.f
