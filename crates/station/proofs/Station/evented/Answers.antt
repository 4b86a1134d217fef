-- `station::Station::evented` meets its contract: by what the byte says. Assumes nothing.
use Rattle.std.proofs.Common.{sym, ap, ◌∙◌}
use Rattle.station.specs.Turns.{turn_of}
use Rattle.station.proofs.Moves.{event_read}
use Rattle.station.proofs.Station.evented.Goals as goal

pub returns-in-Some : goal.returns-in-Some
returns-in-Some c = c.driven.ensures ∙ ap turn_of (event_read _ _ (sym c.in-Some.is ∙ c.event_of.ensures))

pub returns-in-None : goal.returns-in-None
returns-in-None c = c.unmoved.ensures ∙ ap turn_of (event_read _ _ (sym c.in-None.is ∙ c.event_of.ensures))
