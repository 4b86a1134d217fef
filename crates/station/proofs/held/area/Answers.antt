-- `station::held::area` meets its contract: by what the bytes say. Assumes nothing.
use Rattle.std.proofs.Common.{◌∙◌}
use Rattle.station.proofs.Moves.{held_area_lem}
use Rattle.station.proofs.held.area.Goals as goal

pub returns : goal.returns
returns c = c.mask_in.ensures ∙ held_area_lem _ c.code_area.ensures
