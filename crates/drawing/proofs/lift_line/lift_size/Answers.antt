use native.Mathlib.Omega.{arith}
use Rattle.drawing.proofs.Words.{name_short, car_short, end_short, words_size}
use Rattle.drawing.proofs.lift_line.lift_size.Goals as goal

pub overflow_add-result : goal.overflow_add-result
overflow_add-result c = let l = c.args.lift in omega (arith, name_short l.height, car_short l.car, c.name_size.ensures, c.car_size.ensures)

pub overflow_add-result-2 : goal.overflow_add-result-2
overflow_add-result-2 c =
    let l = c.args.lift in
    omega
    (arith, name_short l.height, car_short l.car, end_short l.drive, c.name_size.ensures, c.car_size.ensures, c.end_size.ensures)

pub returns : goal.returns
returns c =
    let l = c.args.lift in
    omega
    (arith, words_size l.height l.car l.drive, c.name_size.ensures, c.car_size.ensures, c.end_size.ensures)
