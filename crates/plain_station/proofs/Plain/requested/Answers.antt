-- `plain_station::Plain::requested` meets its contract. Assumes nothing.
use Rattle.std.proofs.Common.{◌∙◌}
use Rattle.plain_station.proofs.Plain.requested.Goals as goal

pub returns : goal.returns
returns c = c.handed.ensures ∙ c.asked.ensures
