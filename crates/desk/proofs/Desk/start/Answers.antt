-- `desk::Desk::start` meets its contract. Assumes nothing.
use mathlib.Core.Path.{ap, ◌∙◌}
use lib.ListN.{replicate}
use Rattle.station.specs.declared.Station.{Station}
use Rattle.desk.specs.declared.Desk.{Desk}
use Rattle.desk.proofs.Desk.start.Goals as goal

-- a desk over a station, with no number
abbrev started : Station → Desk
started s = record { station = s; numbers = replicate 42 0 }

pub returns : goal.returns
returns c = c.unnumbered.ensures ∙ ap started c.start-station.ensures
