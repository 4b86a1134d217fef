-- `floor::all_carry` meets its contract: each of the six answers is one rule, and the masks name its places. Assumes nothing.
use Rattle.bits.specs.Bits.{bit}
use Rattle.bits.specs.Places.{places}
use Rattle.floor.specs.Floor.{left, right}
use Rattle.floor.specs.Sound.{carried_by_shuttle}
use Rattle.floor.proofs.Judging.{one, ◌also◌}
use Rattle.floor.proofs.all_carry.Goals as goal

pub returns : goal.returns
unfolding places
returns c =
    let f = bit c.args.r in
    (one f (carried_by_shuttle left 1) c.carries.ensures
    also one f (carried_by_shuttle left 2) c.carries-2.ensures
    also one f (carried_by_shuttle left 3) c.carries-3.ensures
    also one f (carried_by_shuttle right 1) c.carries-4.ensures
    also one f (carried_by_shuttle right 2) c.carries-5.ensures
    also one f (carried_by_shuttle right 3) c.carries-6.ensures).same
