-- `plain_moves::lifts::at_basement` meets its contract: each height is one case (plain/proofs/Standing.antt). Assumes nothing.
use native.Mathlib.Omega.{arith}
use Rattle.plain.proofs.Standing.{at_height}
use Rattle.plain_moves.proofs.Lifting.{not_at_basement}
use Rattle.plain_moves.proofs.lifts.at_basement.Goals as goal

pub returns-in-Basement : goal.returns-in-Basement
returns-in-Basement c = at_height c.args.f 2 (omega arith) c.in-Basement.is

pub returns-in_default : goal.returns-in_default
returns-in_default c = not_at_basement c.args.f c.in_default.not-Basement
