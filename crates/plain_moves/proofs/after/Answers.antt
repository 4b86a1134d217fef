-- `plain_moves::after` meets its contract: each instruction has a function of its own, and rotating leaves the floor (proofs/Moving.antt). Assumes nothing.
use Rattle.bits.proofs.Cases.{true→T}
use Rattle.plain.specs.Plain.{plain_bits}
use Rattle.plain_moves.proofs.Driving.{so_allowed, next_of}
use Rattle.plain_moves.proofs.Floors.{sized}
use Rattle.plain_moves.proofs.Moving.{well, rotated}
use Rattle.plain_moves.proofs.after.Goals as goal

pub run-requires : goal.run-requires
run-requires c = so_allowed (plain_bits c.args.f) c.in-Belts.is c.requires

pub moved-requires : goal.moved-requires
moved-requires c = so_allowed (plain_bits c.args.f) c.in-Shuttles.is c.requires

pub tilted-requires : goal.tilted-requires
tilted-requires c =
    let f = plain_bits c.args.f in
    true→T (well _ f (so_allowed f c.in-Tilt.is c.requires))

pub moved-requires-in-Lift : goal.moved-requires-in-Lift
moved-requires-in-Lift c =
    let f = plain_bits c.args.f in
    true→T (well _ f (so_allowed f c.in-Lift.is c.requires))

pub returns-in-Belts : goal.returns-in-Belts
returns-in-Belts c = next_of (plain_bits c.args.f) c.in-Belts.is c.run.ensures

pub returns-in-Shuttles : goal.returns-in-Shuttles
returns-in-Shuttles c = next_of (plain_bits c.args.f) c.in-Shuttles.is c.moved.ensures

pub returns-in-Tilt : goal.returns-in-Tilt
returns-in-Tilt c = next_of (plain_bits c.args.f) c.in-Tilt.is c.tilted.ensures

pub returns-in-Lift : goal.returns-in-Lift
returns-in-Lift c = next_of (plain_bits c.args.f) c.in-Lift.is c.moved-in-Lift.ensures

pub returns-in-Rotate : goal.returns-in-Rotate
returns-in-Rotate c = let f = c.args.f in let g = c.well_formed in
    next_of (plain_bits f) c.in-Rotate.is (rotated f (sized f g.0.1.1.0.1.0.1 g.0.1.1.1.0.1.0.1))
