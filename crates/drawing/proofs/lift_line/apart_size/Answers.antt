use Rattle.codec.specs.Text.{ascii}
use Rattle.drawing.proofs.lift_line.apart_size.Goals as goal

pub returns-then-car : goal.returns-then-car
unfolding ascii
returns-then-car c = rw c.if-car.true

pub returns : goal.returns
unfolding ascii
returns c = rw c.if-car.false
