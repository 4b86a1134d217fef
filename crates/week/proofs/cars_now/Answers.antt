-- `week::cars_now` meets its contract: a sound record has few cars, so that their number is a byte. Assumes nothing.
use mathlib.Core.Path.{sym, ◌∙◌}
use native.Mathlib.Omega.{arith}
use Rattle.week.proofs.Telling.{sound_cars, few_sound, few_told, cars_told}
use Rattle.week.proofs.cars_now.Goals as goal

pub overflow_cast-result : goal.overflow_cast-result
overflow_cast-result c = omega (arith, few_sound _ _ (c.requires c.if-known.true) c.cars_in.ensures)

pub returns-then-known : goal.returns-then-known
returns-then-known c = c.cars_in.ensures ∙ sym (sound_cars _ (c.requires c.if-known.true))

pub overflow_cast-result-in-Some : goal.overflow_cast-result-in-Some
overflow_cast-result-in-Some c = omega (arith, few_told _ _ (sym c.cars.ensures ∙ c.in-Some.is))

pub returns-in-Some : goal.returns-in-Some
returns-in-Some c = cars_told _ (sym c.cars.ensures ∙ c.in-Some.is)

pub returns-in-None : goal.returns-in-None
returns-in-None c = cars_told _ (sym c.cars.ensures ∙ c.in-None.is)
