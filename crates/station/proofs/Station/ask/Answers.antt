-- `station::Station::ask` meets its contract: one refusal. Assumes nothing.
use Rattle.std.proofs.Common.{sym, ◌∙◌}
use Rattle.station.specs.Calls.{ask}
use Rattle.station.proofs.Station.ask.Goals as goal

pub returns-then-fit : goal.returns-then-fit
unfolding ask
returns-then-fit c = c.taken.ensures ∙ rw (sym c.fit.ensures ∙ c.if-fit.true)

pub returns : goal.returns
unfolding ask
returns c = c.refused.ensures ∙ rw (sym c.fit.ensures ∙ c.if-fit.false)
