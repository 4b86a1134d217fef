use Rattle.totals.specs.Private.{with_cars}
use Rattle.totals.proofs.raise_cars.Goals as goal

pub returns : goal.returns
unfolding with_cars
returns c = rw c.max.ensures
