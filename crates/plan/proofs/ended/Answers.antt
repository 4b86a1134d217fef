-- `plan::ended` meets its contract: the wish is met, or 36. Assumes nothing.
use Rattle.std.proofs.Common.{sym, ◌∙◌}
use Rattle.plan.proofs.ended.Goals as goal

pub returns-then-meets : goal.returns-then-meets
returns-then-meets c = c.wholly.ensures ∙ rw (sym c.meets.ensures ∙ c.if-meets.true)

pub returns : goal.returns
returns c = c.wholly-2.ensures ∙ rw (sym c.meets.ensures ∙ c.if-meets.false)
