use borrow.Enum.Refused.{opened}
use Rattle.wire.proofs.Room.{unranged}
use Rattle.wire.proofs.kinds.in_range.Goals as goal

pub returns-in-Event : goal.returns-in-Event
returns-in-Event c = rw c.in-Event.is

pub returns-in-Result : goal.returns-in-Result
returns-in-Result c = rw c.in-Result.is

pub returns-in-Answer : goal.returns-in-Answer
returns-in-Answer c = rw (c.in_table.ensures, c.in-Answer.is)

pub returns-in_default : goal.returns-in_default
returns-in_default c = unranged c.args.what (opened c.in_default.in_default-own.keys4)
