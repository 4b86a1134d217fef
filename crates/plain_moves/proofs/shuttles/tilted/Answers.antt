-- `plain_moves::shuttles::tilted` meets its contract: the two slots that are stored are those of the next record (proofs/Moving.antt). Assumes nothing.
use mathlib.Core.Path.{refl}
use native.Mathlib.Omega.{arith}
use Rattle.plain.proofs.Ranges.{tilt_ranges}
use Rattle.plain_moves.proofs.Floors.{sized}
use Rattle.plain_moves.proofs.Moving.{tilt_moved}
use Rattle.plain_moves.proofs.shuttles.tilted.Goals as goal

pub slot-from-requires : goal.slot-from-requires
slot-from-requires c =
    let a = c.args in
    let b = tilt_ranges a.side a.row a.orientation c.requires in (b.0, b.3, b.1, b.2)

pub overflow_sub-orientation : goal.overflow_sub-orientation
overflow_sub-orientation c =
    let a = c.args in
    let b = tilt_ranges a.side a.row a.orientation c.requires in omega arith

pub slot-to-requires : goal.slot-to-requires
slot-to-requires c =
    let a = c.args in
    let b = tilt_ranges a.side a.row a.orientation c.requires in (b.0, (omega arith), b.1, b.2)

pub bounds-slots-from : goal.bounds-slots-from
bounds-slots-from c =
    let a = c.args in
    let b = tilt_ranges a.side a.row a.orientation c.requires in omega (arith, c.slot-from.ensures)

pub bounds-slots-to : goal.bounds-slots-to
bounds-slots-to c =
    let a = c.args in
    let b = tilt_ranges a.side a.row a.orientation c.requires in omega (arith, c.slot-to.ensures)

pub returns : goal.returns
returns c =
    let a = c.args in
    let g = c.well_formed in
    let b = tilt_ranges a.side a.row a.orientation c.requires in
    tilt_moved a.f (sized a.f g.0.1.1.0.1.0.1 g.0.1.1.1.0.1.0.1) a.side a.row a.orientation c.requires
    c.slot-from.ensures c.slot-to.ensures refl (omega (arith, c.slot-from.ensures)) (omega (arith, c.slot-to.ensures))
