-- `plain_station::Plain::evented` meets its contract: by what the byte says. Assumes nothing.
use Rattle.plain_station.proofs.Outcomes.{event_read}
use Rattle.std.proofs.Common.{sym, ◌∙◌}
use Rattle.plain_station.proofs.Plain.evented.Goals as goal

pub returns-in-Some : goal.returns-in-Some
returns-in-Some c = c.handed.ensures ∙ c.driven.ensures ∙ event_read _ _ (sym c.in-Some.is ∙ c.event_of.ensures)

pub returns-in-None : goal.returns-in-None
returns-in-None c = c.refused.ensures ∙ event_read _ _ (sym c.in-None.is ∙ c.event_of.ensures)
