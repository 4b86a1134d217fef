-- `plain_moves::shuttles::put` meets its contract: two half cells in row 1, else one cell (proofs/Finding.antt). Assumes nothing.
use native.Mathlib.Omega.{arith}
use Rattle.plain_moves.proofs.Finding.{first_small, half_small, put_halves, put_cell}
use Rattle.plain_moves.proofs.shuttles.put.Goals as goal

pub bounds-new-first : goal.bounds-new-first
bounds-new-first c = let a = c.args in omega (arith, c.first_cell-first.ensures, first_small a.side a.row c.requires)

pub overflow_add-new : goal.overflow_add-new
overflow_add-new c =
    let a = c.args in
    omega (arith, c.first_cell-first.ensures, half_small a.side c.requires c.if-row-eq1.true)

pub bounds-new-first-then-row-eq1 : goal.bounds-new-first-then-row-eq1
bounds-new-first-then-row-eq1 c =
    let a = c.args in
    omega (arith, c.first_cell-first.ensures, half_small a.side c.requires c.if-row-eq1.true)

pub returns-then-row-eq1 : goal.returns-then-row-eq1
returns-then-row-eq1 c = let a = c.args in put_halves a.side a.row c.first_cell-first.ensures _ _ c.if-row-eq1.true

pub returns : goal.returns
returns c = let a = c.args in put_cell a.side a.row c.first_cell-first.ensures _ _ c.if-row-eq1.false
