-- `plain_moves::areas::of_shuttles` meets its contract: the loop marks a row at a time (proofs/Marking.antt). Assumes nothing.
use mathlib.Core.Path.{refl}
use native.Mathlib.Omega.{arith}
use Rattle.plain.proofs.Ranges.{shuttles_ranges}
use Rattle.plain_moves.proofs.Marking.{shuttle_cells, shuttle_slots, shuttle_cells_more, shuttle_slots_more, shuttles_area}
use Rattle.plain_moves.proofs.areas.of_shuttles.Goals as goal

pub loop-row-init : goal.loop-row-init
unfolding shuttle_cells shuttle_slots
loop-row-init c = (refl, refl, (omega arith), (omega arith))

pub touched-on-requires : goal.touched-on-requires
touched-on-requires c = ((omega arith), (omega arith))

pub slot-at-requires : goal.slot-at-requires
slot-at-requires c =
    let a = c.args in
    let b = shuttles_ranges a.side a.mask a.orientation a.toward c.requires in
    (b.0, b.2, (omega arith), (omega arith))

pub overflow_cast-slots : goal.overflow_cast-slots
overflow_cast-slots c =
    let a = c.args in
    let b = shuttles_ranges a.side a.mask a.orientation a.toward c.requires in
    omega (arith, c.slot-at.ensures)

pub bounds-slots-at : goal.bounds-slots-at
bounds-slots-at c =
    let a = c.args in
    let b = shuttles_ranges a.side a.mask a.orientation a.toward c.requires in
    omega (arith, c.slot-at.ensures)

pub put-marked-requires : goal.put-marked-requires
put-marked-requires c =
    let a = c.args in
    (shuttles_ranges a.side a.mask a.orientation a.toward c.requires).0

pub loop-row-preserved : goal.loop-row-preserved
loop-row-preserved c = let a = c.args in let v = c.loop-row.invariant in (
  shuttle_cells_more a.side a.mask a.orientation a.toward v.2 v.0 c.touched-on.ensures c.put-marked.ensures,
  shuttle_slots_more a.side a.mask a.orientation a.toward v.2 v.1 c.slot-at.ensures c.touched-on.ensures,
  (omega arith),
  (omega arith),
)

pub returns : goal.returns
returns c =
    let a = c.args in
    let v = c.loop-row.invariant in
    shuttles_area a.side a.mask a.orientation a.toward c.requires v.0 v.1 (omega arith)
