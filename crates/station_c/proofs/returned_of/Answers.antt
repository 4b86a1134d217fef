use borrow.Enum.Refused.{opened}
use Rattle.station_c.proofs.Exchanging.{not_an_answer}
use mathlib.Core.Path.{◌∙◌}
use Rattle.station_c.proofs.returned_of.Goals as goal

pub returns-in-Answer : goal.returns-in-Answer
returns-in-Answer c = rw c.in-Answer.is

pub returns-in_default : goal.returns-in_default
returns-in_default c = c.say.ensures ∙ not_an_answer c.args.what (opened c.in_default.in_default-own.keys2)
