-- `plan::sets::parts_at` meets its contract: the area without the lift's height. Assumes nothing.
use Rattle.plan.proofs.Parts.{parts_so}
use Rattle.plan.proofs.sets.parts_at.Goals as goal

pub returns : goal.returns
returns c = parts_so _ _ c.code_at.ensures c.code_area.ensures c.unwrap_or.ensures
