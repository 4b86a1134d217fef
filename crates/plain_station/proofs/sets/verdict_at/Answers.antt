-- `plain_station::sets::verdict_at` meets its contract: by what the bytes say. Assumes nothing.
use Rattle.plain_station.proofs.Reading.{no_verdict, its_verdict}
use Rattle.std.proofs.Common.{◌∙◌}
use Rattle.plain_station.proofs.sets.verdict_at.Goals as goal

pub returns-in-Some : goal.returns-in-Some
returns-in-Some c = c.verdict.ensures ∙ its_verdict _ _ c.instruction.ensures _ _ c.in-Some.is

pub returns-in-None : goal.returns-in-None
returns-in-None c = no_verdict _ _ c.instruction.ensures _ c.in-None.is
