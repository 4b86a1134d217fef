-- `plain_station::sets::area_at` meets its contract: by what the bytes say. Assumes nothing.
use Rattle.plain_station.proofs.Reading.{no_parts, its_parts}
use Rattle.std.proofs.Common.{◌∙◌}
use Rattle.plain_station.proofs.sets.area_at.Goals as goal

pub returns-in-Some : goal.returns-in-Some
returns-in-Some c = c.area.ensures ∙ its_parts _ _ c.instruction.ensures _ c.in-Some.is

pub returns-in-None : goal.returns-in-None
returns-in-None c = no_parts _ _ c.instruction.ensures c.in-None.is
