-- `plan::sets::lift_if` meets its contract: the lift out of turn, or another answer. Assumes nothing.
use Rattle.std.proofs.Common.{eq-eqb, ne_eqb}
use Rattle.plan.proofs.Numbered.{in_turn}
use Rattle.plan.proofs.sets.lift_if.Goals as goal

pub returns-in-OutOfTurn : goal.returns-in-OutOfTurn
returns-in-OutOfTurn c = rw c.in-OutOfTurn.is

pub returns-in_default : goal.returns-in_default
returns-in_default c = rw (ne_eqb _ 31 (in_turn c.args.answer c.in_default.not-OutOfTurn))
