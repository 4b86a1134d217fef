-- `desk::Desk::ask` meets its contract. Assumes nothing.
use mathlib.Core.Path.{◌∙◌, sym}
use Rattle.desk.proofs.Taking.{ask_unfit, ask_fit}
use Rattle.desk.proofs.Desk.ask.Goals as goal

pub returns-then-not-fit : goal.returns-then-not-fit
returns-then-not-fit c = c.refused.ensures ∙ ask_unfit _ (sym c.fit.ensures ∙ c.if-not-fit.true)

pub returns : goal.returns
returns c = c.refused-2.ensures ∙ ask_fit _ (sym c.fit.ensures ∙ c.if-not-fit.false)
