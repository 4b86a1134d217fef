-- `station::held::has_lift` meets its contract, by what the bytes say. Assumes nothing.
use Rattle.station.proofs.Areas.{held_lifts, none_lifts}
use Rattle.std.proofs.Common.{sym, ◌∙◌}
use Rattle.station.proofs.held.has_lift.Goals as goal

pub returns-in-Some : goal.returns-in-Some
returns-in-Some c = held_lifts c.args.x _ c.lifts.ensures (sym c.read.ensures ∙ c.in-Some.is)

pub returns-in-None : goal.returns-in-None
returns-in-None c = none_lifts c.args.x (sym c.read.ensures ∙ c.in-None.is)
