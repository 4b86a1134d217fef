-- `plain_station::sets::moved_by` meets its contract: by what the bytes say. Assumes nothing.
use Rattle.plain_station.proofs.Reading.{not_moved, its_move}
use Rattle.std.proofs.Common.{◌∙◌, rules}
use Rattle.plain_station.proofs.sets.moved_by.Goals as goal

pub returns-in-Some : goal.returns-in-Some
returns-in-Some c = c.moved.ensures ∙ its_move _ _ c.instruction.ensures _ (search rules) (search rules) _ c.in-Some.is

pub returns-in-None : goal.returns-in-None
returns-in-None c = not_moved _ _ c.instruction.ensures _ (search rules) (search rules) c.in-None.is
