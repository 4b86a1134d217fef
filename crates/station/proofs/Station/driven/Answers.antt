-- `station::Station::driven` meets its contract: no set that holds the lift is outstanding, or one is. Assumes nothing.
use Rattle.std.proofs.Common.{◌∙◌}
use Rattle.station.specs.Calls.{driven}
use Rattle.station.proofs.Station.driven.Goals as goal

pub returns-then-lift_in : goal.returns-then-lift_in
unfolding driven
returns-then-lift_in c = c.unmoved.ensures ∙ rw (← c.lift_in.ensures, c.if-lift_in.true)

pub returns : goal.returns
unfolding driven
returns c = c.occurred.ensures ∙ rw (← c.lift_in.ensures, c.if-lift_in.false)
