-- `week::number_in` meets its contract: kind 128, or any other. Assumes nothing.
use borrow.Enum.Refused.{opened}
use Rattle.week.proofs.Telling.{no_number}
use Rattle.week.proofs.number_in.Goals as goal

pub returns-in-Answer : goal.returns-in-Answer
returns-in-Answer c = rw c.in-Answer.is

pub returns-in_default : goal.returns-in_default
returns-in_default c = no_number c.args.what (opened c.in_default.in_default-own.keys2)
