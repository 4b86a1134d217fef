-- `floor::rules_kept` meets its contract: the answers in turn are the list of rules, and the masks name their places. Assumes nothing.
use mathlib.Core.Path.{ap, ap₂}
use mathlib.Core.Bool.{not, ◌&&◌}
use mathlib.Core.List.{[], ◌∷◌}
use Rattle.bits.specs.Bits.{bit}
use Rattle.bits.specs.Places.{places}
use Rattle.floor.specs.Floor.{left, right, drives, spare}
use Rattle.floor.specs.Tests.{set, free, no, height_is}
use Rattle.floor.specs.Sound.{carried_by_shuttle, on_lift, on_raised_lift, three_shuttles, drives_at_street, drives_into_empty, drives_out_of_full}
use Rattle.floor.proofs.Judging.{one, many, ◌also◌}
use Rattle.floor.proofs.rules_kept.Goals as goal

pub returns : goal.returns
unfolding places
returns c =
    let f = bit c.args.r in
    let high = ap₂ ◌&&◌ c.all.ensures c.all-2.ensures in
    (many f (carried_by_shuttle left 1 ∷ carried_by_shuttle left 2 ∷ carried_by_shuttle left 3 ∷ carried_by_shuttle right 1 ∷ carried_by_shuttle right 2 ∷ carried_by_shuttle right 3 ∷ [])
    c.all_carry.ensures
    also many f (on_lift ∷ on_raised_lift ∷ []) c.lift_fits.ensures
    also one f (three_shuttles left) c.three.ensures
    also one f (three_shuttles right) c.three-2.ensures
    also one f (no (height_is 3)) (ap not high)
    also one f (free spare) c.free.ensures
    also many f (no (set drives) ∷ drives_at_street ∷ drives_into_empty ∷ drives_out_of_full ∷ []) c.drives_fit.ensures).same
