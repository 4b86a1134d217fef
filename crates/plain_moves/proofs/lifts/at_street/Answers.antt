-- `plain_moves::lifts::at_street` meets its contract: each height is one case (plain/proofs/Standing.antt). Assumes nothing.
use native.Mathlib.Omega.{arith}
use Rattle.plain.proofs.Standing.{at_height}
use Rattle.plain_moves.proofs.Lifting.{not_at_street}
use Rattle.plain_moves.proofs.lifts.at_street.Goals as goal

pub returns-in-Street : goal.returns-in-Street
returns-in-Street c = at_height c.args.f 0 (omega arith) c.in-Street.is

pub returns-in_default : goal.returns-in_default
returns-in_default c = not_at_street c.args.f c.in_default.not-Street
