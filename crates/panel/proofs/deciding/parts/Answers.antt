-- `panel::deciding::parts` meets its contract: an ill-formed instruction, and one case for each op (proofs/Tested.antt). Assumes nothing.
use Rattle.panel.proofs.Tested.{ill_read, belts_read_lem, tilt_read_lem, rotate_read_lem, shuttles_read_lem, lift_read_lem}
use Rattle.plain.proofs.Ranges.{is_well, shuttles_ranges, tilt_ranges}
use Rattle.bits.proofs.Cases.{passed, failed}
use Rattle.panel.proofs.deciding.parts.Goals as goal

pub returns-then-not-well_formed : goal.returns-then-not-well_formed
returns-then-not-well_formed c =
    let a = c.args in
    ill_read a.i a.c (failed c.well_formed-2.ensures c.if-not-well_formed.true-raw) c.nothing.ensures

pub of_shuttles-requires : goal.of_shuttles-requires
of_shuttles-requires c =
    let v = c.in-Shuttles in
    let r = shuttles_ranges v.side v.mask v.orientation v.toward (is_well c.in-Shuttles.is c.well_formed-2.ensures c.if-not-well_formed.false-raw) in
    (r.0, r.2)

pub of_tilt-requires : goal.of_tilt-requires
of_tilt-requires c =
    let v = c.in-Tilt in
    (tilt_ranges v.side v.row v.orientation (is_well c.in-Tilt.is c.well_formed-2.ensures c.if-not-well_formed.false-raw)).0

pub returns-in-Belts : goal.returns-in-Belts
returns-in-Belts c =
    let a = c.args in
    belts_read_lem a.i a.c (passed c.well_formed-2.ensures c.if-not-well_formed.false-raw) c.area-area.ensures c.in-Belts.is c.of_belts.ensures

pub returns-in-Shuttles : goal.returns-in-Shuttles
returns-in-Shuttles c =
    let a = c.args in
    shuttles_read_lem a.i a.c (passed c.well_formed-2.ensures c.if-not-well_formed.false-raw) c.in-Shuttles.is c.of_shuttles.ensures

pub returns-in-Tilt : goal.returns-in-Tilt
returns-in-Tilt c =
    let a = c.args in
    tilt_read_lem a.i a.c (passed c.well_formed-2.ensures c.if-not-well_formed.false-raw) c.area-area.ensures c.in-Tilt.is c.of_tilt.ensures

pub returns-in-Lift : goal.returns-in-Lift
returns-in-Lift c =
    let a = c.args in
    lift_read_lem a.i a.c (passed c.well_formed-2.ensures c.if-not-well_formed.false-raw) c.in-Lift.is c.of_lift.ensures

pub returns-in-Rotate : goal.returns-in-Rotate
returns-in-Rotate c =
    let a = c.args in
    rotate_read_lem a.i a.c (passed c.well_formed-2.ensures c.if-not-well_formed.false-raw) c.area-area.ensures c.in-Rotate.is c.of_rotate.ensures
