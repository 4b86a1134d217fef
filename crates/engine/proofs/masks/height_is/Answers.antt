use Rattle.engine.proofs.Heights.{height_law}
use Rattle.engine.proofs.masks.height_is.Goals as goal

pub returns : goal.returns
returns c = height_law c.args.r c.args.height
