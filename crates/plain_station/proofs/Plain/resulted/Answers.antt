-- `plain_station::Plain::resulted` meets its contract. Assumes nothing.
use Rattle.std.proofs.Common.{◌∙◌}
use Rattle.plain_station.proofs.Plain.resulted.Goals as goal

pub returns : goal.returns
returns c = c.handed.ensures ∙ c.reported.ensures
