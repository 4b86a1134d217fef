-- `station_c::garage_cars` meets its contract: the number is small, so its cast loses nothing. Assumes nothing.
use mathlib.Core.Path.{sym, ◌∙◌}
use native.Mathlib.Omega.{arith}
use Rattle.floor.proofs.Few.{few_cars}
use Rattle.station_c.proofs.garage_cars.Goals as goal

pub overflow_cast-result : goal.overflow_cast-result
overflow_cast-result c = omega (arith, few_cars _ _ (sym c.cars.ensures ∙ c.in-Some.is))

pub returns-in-Some : goal.returns-in-Some
returns-in-Some c = rw (← c.cars.ensures, c.in-Some.is)

pub returns-in-None : goal.returns-in-None
returns-in-None c = rw (← c.cars.ensures, c.in-None.is)
