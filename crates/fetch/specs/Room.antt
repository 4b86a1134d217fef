-- A test of a record for planners: whether row 1 has room enough for one more car to drive in and lock nobody in. What it promises is
-- stated in the crate fetch_laws. Assumes nothing.
use Rattle.std.specs.Prelude.{Bool, ◌||◌, ℕ, leb}
use Rattle.bits.specs.Bits.{bit, count}
use Rattle.floor.specs.Floor.{left_of_lift, right_of_lift}

-- on one side of the lift at most four half cells are occupied: two cars
unfoldable pub locks_nobody_in : ℕ → Bool
locks_nobody_in r = leb (count left_of_lift (bit r)) 4 || leb (count right_of_lift (bit r)) 4
