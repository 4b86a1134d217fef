use Rattle.codec.specs.Text.{ascii}
use Rattle.drawing.proofs.Telling.{apart_is, apart_none}
use Rattle.drawing.proofs.lift_line.apart_in.Goals as goal

pub returns-then-car-none : goal.returns-then-car-none
unfolding ascii
returns-then-car-none c = apart_is _ c.begins-car.ensures c.begins-none.ensures c.if-car-none.true c.apart_lift.ensures

pub returns : goal.returns
unfolding ascii
returns c = apart_none _ c.begins-car.ensures c.begins-none.ensures c.if-car-none.false
