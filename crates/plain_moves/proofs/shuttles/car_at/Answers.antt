-- `plain_moves::shuttles::car_at` meets its contract: none where no row is, two half cells in row 1, else one cell (proofs/Finding.antt). Assumes nothing.
use native.Mathlib.Omega.{arith}
use Rattle.plain_moves.specs.Private.{cell_bits}
use Rattle.plain_moves.proofs.Finding.{first_small, half_small, no_car, car_halves, car_cell}
use Rattle.plain_moves.proofs.shuttles.car_at.Goals as goal

pub returns-in_default : goal.returns-in_default
returns-in_default c = let a = c.args in no_car a.side (cell_bits a.cells.now) c.in_default.is

pub bounds-cells-first : goal.bounds-cells-first
bounds-cells-first c =
    let a = c.args in
    omega (arith, c.first_cell-first.ensures, first_small a.side c.in-Some.row c.requires)

pub overflow_add-result : goal.overflow_add-result
overflow_add-result c =
    let a = c.args in
    omega (arith, c.first_cell-first.ensures, half_small a.side c.requires c.if-row-eq1.true)

pub bounds-cells-first-then-row-eq1 : goal.bounds-cells-first-then-row-eq1
bounds-cells-first-then-row-eq1 c =
    let a = c.args in
    omega (arith, c.first_cell-first.ensures, half_small a.side c.requires c.if-row-eq1.true)

pub returns-then-row-eq1 : goal.returns-then-row-eq1
returns-then-row-eq1 c =
    let a = c.args in
    car_halves a.side c.in-Some.row c.first_cell-first.ensures (cell_bits a.cells.now) c.in-Some.is c.if-row-eq1.true

pub bounds-cells-first-2 : goal.bounds-cells-first-2
bounds-cells-first-2 c =
    let a = c.args in
    omega (arith, c.first_cell-first.ensures, first_small a.side c.in-Some.row c.requires)

pub returns : goal.returns
returns c =
    let a = c.args in
    car_cell a.side c.in-Some.row c.first_cell-first.ensures (cell_bits a.cells.now) c.in-Some.is c.if-row-eq1.false
