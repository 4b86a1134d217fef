-- `engine::arrived` meets its contract: the drive that was under way says whether there is a car. Assumes nothing.
use Rattle.engine.proofs.Lifting.{there_laid, gone_laid}
use mathlib.Core.Path.{sym, ◌∙◌}
use Rattle.engine.proofs.arrived.Goals as goal

pub returns-then-all : goal.returns-then-all
returns-then-all c = c.laid.ensures ∙ there_laid _ (sym c.all.ensures ∙ c.if-all.true)

pub returns : goal.returns
returns c = c.laid-2.ensures ∙ gone_laid _ (sym c.all.ensures ∙ c.if-all.false)
