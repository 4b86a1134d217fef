-- `plain_moves::area` meets its contract: an ill-formed one has none, and each kind has a function of its own (proofs/Marking.antt). Assumes nothing.
use Rattle.bits.proofs.Cases.{passed, failed}
use Rattle.plain.proofs.Ranges.{is_well}
use Rattle.plain_moves.proofs.Marking.{no_area, area_of_lem, belts_well}
use Rattle.plain_moves.proofs.area.Goals as goal

pub returns-then-not-well_formed : goal.returns-then-not-well_formed
returns-then-not-well_formed c =
    no_area c.args.i (failed c.well_formed-2.ensures c.if-not-well_formed.true-raw) c.nothing.ensures

pub of_belts-requires : goal.of_belts-requires
of_belts-requires c =
    belts_well c.in-Belts.is c.well_formed-2.ensures c.if-not-well_formed.false-raw

pub of_shuttles-requires : goal.of_shuttles-requires
of_shuttles-requires c =
    is_well c.in-Shuttles.is c.well_formed-2.ensures c.if-not-well_formed.false-raw

pub of_tilt-requires : goal.of_tilt-requires
of_tilt-requires c =
    is_well c.in-Tilt.is c.well_formed-2.ensures c.if-not-well_formed.false-raw

pub returns-in-Belts : goal.returns-in-Belts
returns-in-Belts c =
    area_of_lem c.in-Belts.is (passed c.well_formed-2.ensures c.if-not-well_formed.false-raw) c.of_belts.ensures

pub returns-in-Shuttles : goal.returns-in-Shuttles
returns-in-Shuttles c =
    area_of_lem c.in-Shuttles.is (passed c.well_formed-2.ensures c.if-not-well_formed.false-raw) c.of_shuttles.ensures

pub returns-in-Tilt : goal.returns-in-Tilt
returns-in-Tilt c =
    area_of_lem c.in-Tilt.is (passed c.well_formed-2.ensures c.if-not-well_formed.false-raw) c.of_tilt.ensures

pub returns-in-Lift : goal.returns-in-Lift
returns-in-Lift c =
    area_of_lem c.in-Lift.is (passed c.well_formed-2.ensures c.if-not-well_formed.false-raw) c.of_lift.ensures

pub returns-in-Rotate : goal.returns-in-Rotate
returns-in-Rotate c =
    area_of_lem c.in-Rotate.is (passed c.well_formed-2.ensures c.if-not-well_formed.false-raw) c.of_rotate.ensures
