-- The promises of specs/Promises.antt kept: each is a law of another file. Assumes nothing.
use Rattle.floor.specs.Promises.{LayoutExactly, LayoutCars, FewCars, ThirtyCars, AtMost28, TwentyEight, SoundExactly, OnBelts, BeltsExactly}
use Rattle.floor.proofs.Layouts.{layout_iff_paired, sound_iff}
use Rattle.floor.proofs.Tally as tally
use Rattle.floor.proofs.Few as few
use Rattle.floor.proofs.Standing as standing
use Rattle.floor.proofs.Belts.{belt_iff_cell}

pub layout_exactly : LayoutExactly
layout_exactly = layout_iff_paired

pub layout_cars : LayoutCars
layout_cars = tally.layout_cars

pub few_cars : FewCars
few_cars = few.few_cars

pub thirty_cars : ThirtyCars
thirty_cars = few.thirty_cars

pub at_most_28 : AtMost28
at_most_28 = few.at_most_28

pub twenty_eight : TwentyEight
twenty_eight = few.twenty_eight

pub sound_exactly : SoundExactly
sound_exactly = sound_iff

pub on_belts : OnBelts
on_belts = standing.on_belts

pub belts_exactly : BeltsExactly
belts_exactly = belt_iff_cell
