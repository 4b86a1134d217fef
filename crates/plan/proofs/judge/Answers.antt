-- `plan::judge` meets its contract: the number and the set of the grounds. Assumes nothing.
use Rattle.std.proofs.Common.{ap}
use Rattle.plan.specs.Plans.{judged_by, judgement}
use Rattle.plan.proofs.judge.Goals as goal

pub returns : goal.returns
unfolding judgement
returns c = ap judged_by c.explain-g.ensures
