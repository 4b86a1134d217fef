-- `plain_moves::lifts::moved` meets its contract: arriving in the basement, leaving it, and neither (proofs/Lifting.antt). Assumes nothing.
use mathlib.Core.Bool.{◌&&◌}
use mathlib.Core.Path.{refl, sym, ap₂, ◌∙◌}
use native.Mathlib.Omega.{arith}
use Rattle.plain.specs.Plain.{plain_bits}
use Rattle.plain.proofs.Imaging.{car_bit}
use Rattle.plain.proofs.Standing.{cell_bit}
use Rattle.plain_moves.proofs.Floors.{sized}
use Rattle.plain_moves.proofs.Lifting.{cell_down, lift_down, cell_up, lift_up, lift_stays, cells_stored, cells_left, lifted}
use Rattle.plain_moves.proofs.lifts.moved.Goals as goal

pub returns-then-height-eq2 : goal.returns-then-height-eq2
returns-then-height-eq2 c =
    let a = c.args in
    let g = c.well_formed in
    let s = sized a.f g.0.1.1.0.1.0.1 g.0.1.1.1.0.1.0.1 in
    let e = c.if-height-eq2.true in
    lifted a.f s a.height
    (cells_stored a.f s a.height (car_bit a.f refl ∙ cell_down a.height (plain_bits a.f) e 11)
    (car_bit a.f refl ∙ cell_down a.height (plain_bits a.f) e 12))
    (lift_down a.height (plain_bits a.f) e) c.height_of-to.ensures

pub returns-then-at_basement : goal.returns-then-at_basement
returns-then-at_basement c =
    let a = c.args in
    let g = c.well_formed in
    let s = sized a.f g.0.1.1.0.1.0.1 g.0.1.1.1.0.1.0.1 in
    let e = c.if-height-eq2.false in
    let low = sym c.at_basement.ensures ∙ c.if-at_basement.true in
    lifted a.f s a.height
    (cells_stored a.f s a.height (cell_up a.height (plain_bits a.f) e low 11) (cell_up a.height (plain_bits a.f) e low 12))
    (ap₂ ◌&&◌ (cell_bit a.f 11 (omega arith)) (cell_bit a.f 12 (omega arith)) ∙ lift_up a.height (plain_bits a.f) e low)
    c.height_of-to.ensures

pub returns : goal.returns
returns c =
    let a = c.args in
    let g = c.well_formed in
    let s = sized a.f g.0.1.1.0.1.0.1 g.0.1.1.1.0.1.0.1 in
    let e = c.if-height-eq2.false in
    let low = sym c.at_basement.ensures ∙ c.if-at_basement.false in
    lifted a.f s a.height (cells_left a.f s a.height e low)
    (car_bit a.f refl ∙ lift_stays a.height (plain_bits a.f) e low) c.height_of-to.ensures
