-- `plan_c::plan_judge` meets its contract: it returns what the library judges. Assumes nothing.
use mathlib.Core.Path.{ap, ◌∙◌}
use Rattle.plan_c.specs.Entries.{returned_judgement}
use Rattle.plan_c.proofs.plan_judge.Goals as goal

pub returns : goal.returns
returns c = c.said.ensures ∙ ap returned_judgement c.judge-j.ensures
