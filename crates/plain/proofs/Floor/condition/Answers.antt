-- `plain::Floor::condition` meets its contract, variant by variant. Assumes nothing.
use Rattle.plain.specs.Plain.{plain_bits}
use Rattle.plain.proofs.Telling.{of_ill, of_variant}
use Rattle.plain.proofs.Ranges.{is_well}
use Rattle.plain.proofs.Floor.condition.Goals as goal

pub returns-then-not-well_formed : goal.returns-then-not-well_formed
returns-then-not-well_formed c = of_ill c.args.i c.args.c
    (plain_bits c.args.self) c.well_formed-2.ensures c.if-not-well_formed.true-raw

pub belts_condition-requires : goal.belts_condition-requires
belts_condition-requires c = is_well c.in-Belts.is c.well_formed-2.ensures c.if-not-well_formed.false-raw

pub shuttles_condition-requires : goal.shuttles_condition-requires
shuttles_condition-requires c = is_well c.in-Shuttles.is c.well_formed-2.ensures c.if-not-well_formed.false-raw

pub tilt_condition-requires : goal.tilt_condition-requires
tilt_condition-requires c = is_well c.in-Tilt.is c.well_formed-2.ensures c.if-not-well_formed.false-raw

pub lift_condition-requires : goal.lift_condition-requires
lift_condition-requires c = is_well c.in-Lift.is c.well_formed-2.ensures c.if-not-well_formed.false-raw

pub returns-in-Belts : goal.returns-in-Belts
returns-in-Belts c = of_variant c.args.i
    c.args.c
    (plain_bits c.args.self)
    c.well_formed-2.ensures c.if-not-well_formed.false-raw
    c.in-Belts.is c.belts_condition.ensures

pub returns-in-Shuttles : goal.returns-in-Shuttles
returns-in-Shuttles c = of_variant c.args.i
    c.args.c
    (plain_bits c.args.self)
    c.well_formed-2.ensures c.if-not-well_formed.false-raw
    c.in-Shuttles.is c.shuttles_condition.ensures

pub returns-in-Tilt : goal.returns-in-Tilt
returns-in-Tilt c = of_variant c.args.i
    c.args.c
    (plain_bits c.args.self)
    c.well_formed-2.ensures c.if-not-well_formed.false-raw
    c.in-Tilt.is c.tilt_condition.ensures

pub returns-in-Lift : goal.returns-in-Lift
returns-in-Lift c = of_variant c.args.i
    c.args.c
    (plain_bits c.args.self)
    c.well_formed-2.ensures c.if-not-well_formed.false-raw
    c.in-Lift.is c.lift_condition.ensures

pub returns-in-Rotate : goal.returns-in-Rotate
returns-in-Rotate c = of_variant c.args.i c.args.c
    (plain_bits c.args.self) c.well_formed-2.ensures
    c.if-not-well_formed.false-raw c.in-Rotate.is c.rotate_condition.ensures
