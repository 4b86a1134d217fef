-- `week::happened` meets its contract: what is seen where fitness has just been tested. Assumes nothing.
use mathlib.Core.Path.{ap}
use Rattle.week.specs.declared.Step.{Step}
use Rattle.week.proofs.Steps.{fit_sound}
use Rattle.week.proofs.happened.Goals as goal

pub cars_now-requires : goal.cars_now-requires
cars_now-requires c = fit_sound _ c.fit-known.ensures

pub returns : goal.returns
returns c = ap (λ (x : Step). x.happened) c.seen-x.ensures
