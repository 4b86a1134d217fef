-- `plain_moves::areas::of_belts` meets its contract: the cells, two slots and the lift are those of the area (proofs/Marking.antt). Assumes nothing.
use mathlib.Core.Path.{ap, ◌∙◌}
use native.Mathlib.Omega.{arith}
use Rattle.rules.specs.Cells.{cell_named}
use Rattle.plain.proofs.Ranges.{belts_row}
use Rattle.plain_moves.proofs.Marking.{belts_area}
use Rattle.plain_moves.proofs.areas.of_belts.Goals as goal

pub slot-left-requires : goal.slot-left-requires
slot-left-requires c =
    let a = c.args in
    let r = belts_row a.row a.mask c.requires in ((omega arith), (omega arith), r.0, r.1)

pub slot-right-requires : goal.slot-right-requires
slot-right-requires c =
    let a = c.args in
    let r = belts_row a.row a.mask c.requires in ((omega arith), (omega arith), r.0, r.1)

pub bounds-slots-left : goal.bounds-slots-left
bounds-slots-left c =
    let a = c.args in
    let r = belts_row a.row a.mask c.requires in omega (arith, c.slot-left.ensures)

pub bounds-slots-right : goal.bounds-slots-right
bounds-slots-right c =
    let a = c.args in
    let r = belts_row a.row a.mask c.requires in
    omega (arith, c.slot-right.ensures)

pub returns : goal.returns
returns c =
    let a = c.args in
    let on = cell_named a.row a.mask in
    belts_area a.row a.mask c.requires c.belt_cells-cells.ensures c.slot-left.ensures (c.named.ensures ∙ ap on c.first_cell.ensures)
    c.slot-right.ensures (c.named-2.ensures ∙ ap on c.first_cell-2.ensures) c.named-lift.ensures
