-- `totals::Totals::blank` meets its contract. Assumes nothing.
use mathlib.Core.Path.{ap}
use Rattle.totals.specs.Totals.{totals_of}
use Rattle.totals.proofs.Totals.blank.Goals as goal

pub returns : goal.returns
returns c = ap totals_of c.nothing_counted-counts.ensures
