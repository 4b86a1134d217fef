-- `station::Station::cleared` meets its contract: the lift by what the search has found. Assumes nothing.
use Rattle.std.proofs.Common.{◌&&◌, sym, ◌∙◌, ap₂}
use Rattle.station.specs.Held.{crosses_drive}
use Rattle.station.specs.Calls.{cleared}
use Rattle.station.proofs.Station.cleared.Goals as goal

pub returns-then-under_way-found : goal.returns-then-under_way-found
unfolding cleared crosses_drive
returns-then-under_way-found c = c.unmoved.ensures ∙ rw (sym (ap₂ ◌&&◌ c.under_way.ensures c.requires.lift) ∙ c.if-under_way-found.true)

pub returns : goal.returns
unfolding cleared crosses_drive
returns c = c.spared.ensures ∙ rw (sym (ap₂ ◌&&◌ c.under_way.ensures c.requires.lift) ∙ c.if-under_way-found.false)
