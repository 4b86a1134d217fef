use mathlib.Core.Path.{sym, ◌∙◌}
use native.Mathlib.Omega.{arith}
use borrow.Author.Rules.{rules}
use Rattle.codec.specs.Text.{ascii}
use Rattle.drawing.proofs.Telling.{no_height, no_drive, all_told}
use Rattle.drawing.proofs.Words.{name_short, car_short}
use Rattle.drawing.proofs.lift_line.lift_in.Goals as goal

pub overflow_add-name : goal.overflow_add-name
overflow_add-name c = omega (arith, c.name_size-name.ensures, name_short c.in_ok-height.height)

pub begins-car-requires : goal.begins-car-requires
begins-car-requires c = (omega (arith, c.name_size-name.ensures, name_short c.in_ok-height.height), search rules)

pub overflow_add-name-2 : goal.overflow_add-name-2
overflow_add-name-2 c =
    omega (arith, c.name_size-name.ensures, name_short c.in_ok-height.height, c.car_size.ensures, car_short c.begins-car.result)

pub drive_in-requires : goal.drive_in-requires
drive_in-requires c =
    omega (arith, c.name_size-name.ensures, name_short c.in_ok-height.height, c.car_size.ensures, car_short c.begins-car.result)

pub returns-in_err-height : goal.returns-in_err-height
unfolding ascii
returns-in_err-height c = c.from_residual.ensures ∙ no_height c.args.text.now 51 (sym c.in_err-height.was ∙ c.height_in.ensures)

pub returns-in_err-drive : goal.returns-in_err-drive
unfolding ascii
returns-in_err-drive c =
    c.from_residual-in_err-drive.ensures
    ∙ no_drive c.args.text.now 51 (sym c.in_ok-height.was ∙ c.height_in.ensures) c.name_size-name.ensures
    c.begins-car.ensures c.car_size.ensures (sym c.in_err-drive.was ∙ c.drive_in.ensures)

pub returns : goal.returns
unfolding ascii
returns c =
    all_told c.args.text.now 51 (sym c.in_ok-height.was ∙ c.height_in.ensures) c.name_size-name.ensures
    c.begins-car.ensures c.car_size.ensures (sym c.in_ok-drive.was ∙ c.drive_in.ensures)
