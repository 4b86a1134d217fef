use Rattle.totals.proofs.Steps.{as_held}
use Rattle.totals.proofs.counted.Goals as goal

pub returns : goal.returns
returns c = as_held _ _ _ c.count_at-full.ensures
