-- `engine::after` meets its contract: each event by the mask of the bits that it makes anew. Assumes nothing.
use Rattle.engine.proofs.Lifting.{in_laid, out_laid, stopped_laid}
use mathlib.Core.Path.{◌∙◌}
use Rattle.engine.proofs.after.Goals as goal

pub returns-in-BeginIn : goal.returns-in-BeginIn
returns-in-BeginIn c = rw c.in-BeginIn.is (c.laid.ensures ∙ in_laid c.args.r)

pub returns-in-BeginOut : goal.returns-in-BeginOut
returns-in-BeginOut c = rw c.in-BeginOut.is (c.laid-in-BeginOut.ensures ∙ out_laid c.args.r)

pub returns-in-EndDone : goal.returns-in-EndDone
returns-in-EndDone c = rw c.in-EndDone.is c.arrived.ensures

pub returns-in-EndNotDone : goal.returns-in-EndNotDone
returns-in-EndNotDone c = rw c.in-EndNotDone.is (c.laid-in-EndNotDone.ensures ∙ stopped_laid c.args.r)
