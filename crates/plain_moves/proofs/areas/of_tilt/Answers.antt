-- `plain_moves::areas::of_tilt` meets its contract: the loop marks a lowered slot at a time (proofs/Marking.antt). Assumes nothing.
use native.Mathlib.Omega.{arith}
use Rattle.plain.proofs.Ranges.{tilt_ranges}
use Rattle.plain_moves.proofs.Marking.{tilt_starts, tilt_more, tilt_area}
use Rattle.plain_moves.proofs.areas.of_tilt.Goals as goal

pub put-cells-requires : goal.put-cells-requires
put-cells-requires c = let a = c.args in (tilt_ranges a.side a.row a.orientation c.requires).0

pub slot-tilted-requires : goal.slot-tilted-requires
slot-tilted-requires c =
    let a = c.args in
    let b = tilt_ranges a.side a.row a.orientation c.requires in (b.0, (omega arith), b.1, b.2)

pub overflow_cast-slots : goal.overflow_cast-slots
overflow_cast-slots c =
    let a = c.args in
    let b = tilt_ranges a.side a.row a.orientation c.requires in omega (arith, c.slot-tilted.ensures)

pub bounds-slots-tilted : goal.bounds-slots-tilted
bounds-slots-tilted c =
    let a = c.args in
    let b = tilt_ranges a.side a.row a.orientation c.requires in omega (arith, c.slot-tilted.ensures)

pub loop-other-init : goal.loop-other-init
loop-other-init c = let a = c.args in (tilt_starts a.side a.row a.orientation c.slot-tilted.ensures, (omega arith), (omega arith))

pub slot-at-requires : goal.slot-at-requires
slot-at-requires c =
    let a = c.args in
    let b = tilt_ranges a.side a.row a.orientation c.requires in
    (b.0, (omega arith), (omega arith), (omega arith))

pub overflow_cast-slots-in-loop-other : goal.overflow_cast-slots-in-loop-other
overflow_cast-slots-in-loop-other c =
    let a = c.args in
    let b = tilt_ranges a.side a.row a.orientation c.requires in omega (arith, c.slot-at.ensures)

pub bounds-slots-at : goal.bounds-slots-at
bounds-slots-at c =
    let a = c.args in
    let b = tilt_ranges a.side a.row a.orientation c.requires in omega (arith, c.slot-at.ensures)

pub loop-other-preserved : goal.loop-other-preserved
loop-other-preserved c =
    let a = c.args in
    let v = c.loop-other.invariant in
    (tilt_more a.side a.row a.orientation v.1 v.0 c.slot-at.ensures, (omega arith), (omega arith))

pub returns : goal.returns
returns c =
    let a = c.args in
    let v = c.loop-other.invariant in
    tilt_area a.side a.row a.orientation c.requires c.put-cells.ensures v.0 (omega arith)
