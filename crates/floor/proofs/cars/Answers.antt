-- `floor::cars` meets its contract: the two answers are the two cases of the definition. Assumes nothing.
use mathlib.Core.Path.{ap}
use Rattle.floor.specs.Sound.{total}
use Rattle.std.specs.declared.option.Option.TheVariants.{Some}
use Rattle.floor.proofs.cars.Goals as goal

pub returns-then-sound : goal.returns-then-sound
unfolding total
returns-then-sound c = rw (← c.sound.ensures, c.if-sound.true) (ap Some c.cars_in.ensures)

pub returns : goal.returns
unfolding total
returns c = rw (← c.sound.ensures, c.if-sound.false)
