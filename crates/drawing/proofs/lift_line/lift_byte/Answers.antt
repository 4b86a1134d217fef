use mathlib.Core.Path.{◌∙◌}
use native.Mathlib.Omega.{arith}
use Rattle.codec.specs.Text.{ascii}
use Rattle.drawing.proofs.Words.{name_short, car_short, in_name, in_car, in_end}
use Rattle.drawing.proofs.lift_line.lift_byte.Goals as goal

pub returns-then-i-name : goal.returns-then-i-name
returns-then-i-name c =
    let x = c.args in
    let l = x.lift in
    c.name_byte.ensures ∙ in_name l.height l.car l.drive _ c.name_size-name.ensures x.i
    c.if-i-name.true

pub overflow_add-told : goal.overflow_add-told
overflow_add-told c = let l = c.args.lift in omega (arith, name_short l.height, car_short l.car, c.name_size-name.ensures, c.car_size.ensures)

pub returns-then-i-told : goal.returns-then-i-told
unfolding ascii
returns-then-i-told c =
    let x = c.args in
    let l = x.lift in
    c.byte.ensures ∙ in_car l.height l.car l.drive _ c.name_size-name.ensures x.i _
    c.car_size.ensures c.if-i-name.false c.if-i-told.true

pub returns : goal.returns
returns c =
    let x = c.args in
    let l = x.lift in
    c.end_byte.ensures ∙ in_end l.height l.car l.drive _ c.name_size-name.ensures x.i _
    c.car_size.ensures c.if-i-told.false
