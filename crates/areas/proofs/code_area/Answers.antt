-- `areas::code_area` meets its contract, by what the bytes say. Assumes nothing.
use mathlib.Core.Path.{sym, ◌∙◌}
use Rattle.areas.proofs.Areas.{area_good, area_bad}
use Rattle.areas.proofs.code_area.Goals as goal

pub returns-in_default : goal.returns-in_default
returns-in_default c = area_bad c.args.x (sym c.read.ensures ∙ c.in_default.is)

pub returns : goal.returns
returns c = area_good c.args.x _ c.area_mask.result (sym c.read.ensures ∙ c.in-Some.is) c.area_mask.ensures
