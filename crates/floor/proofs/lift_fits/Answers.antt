-- `floor::lift_fits` meets its contract: the two answers are the two rules of the lift, and the masks name their places. Assumes nothing.
use mathlib.Core.Path.{ap, ap₂}
use mathlib.Core.Bool.{not, ◌&&◌, ◌||◌}
use Rattle.bits.specs.Bits.{bit}
use Rattle.bits.specs.Places.{places}
use Rattle.floor.specs.Sound.{on_lift, on_raised_lift}
use Rattle.floor.proofs.Judging.{one, ◌also◌}
use Rattle.floor.proofs.lift_fits.Goals as goal

pub returns : goal.returns
unfolding places
returns c =
    let f = bit c.args.r in
    let basement = ap₂ ◌&&◌ c.free.ensures c.all.ensures in
    (one f on_lift (ap₂ ◌||◌ c.free-2.ensures basement)
    also one f on_raised_lift (ap₂ ◌||◌ c.free-3.ensures (ap not basement))).same
