-- `station::Station::spared` meets its contract: what is set apart by what the search has found. Assumes nothing.
use Rattle.station.specs.Calls.{spared}
use Rattle.std.proofs.Common.{◌∙◌, le-ltb, lt-ltb}
use Rattle.station.proofs.Station.spared.Goals as goal

pub returns-then-found-count : goal.returns-then-found-count
unfolding spared
returns-then-found-count c = c.unmoved.ensures ∙ rw (← c.requires.touching, lt-ltb _ _ c.if-found-count.true)

pub returns : goal.returns
unfolding spared
returns c = c.accepted.ensures ∙ rw (← c.requires.touching, le-ltb _ _ c.if-found-count.false)
