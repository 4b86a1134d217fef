-- Whether the belt under a place is there. Assumes nothing.
use Rattle.std.specs.Prelude.{◌≡◌, true, false, cond, ◌&&◌, [], ℕ, eqb, get_or}
use Rattle.bits.specs.Bits.{Bits}
use Rattle.floor.specs.declared.Belt.{Belt}
use Rattle.std.specs.declared.option.Option.{Option}
use Rattle.std.specs.declared.option.Option.TheVariants.{Some, None}
use Rattle.floor.specs.Floor.{belt_of, belt_slots, lift_belt, raised_car, street, rotation}
use Rattle.floor.specs.Tests.{Test, fact, set, both, either, when, holds, height_is, at_basement}

-- a shuttle's belt is there with its lowered shuttle, the lift's at basement height, any other always; past the cells there is none
abbrev pub belt_there : Option Belt → Test
belt_there (Some b) = both (set (get_or (belt_slots b.row) b.number [])) (when (eqb b.row 1 && eqb b.number lift_belt) at_basement)
belt_there None = fact false

-- the raised lift is there at the two heights above the basement
abbrev pub lift_raised : Test
lift_raised = either (height_is street) (height_is rotation)

-- what a car at this place stands on is there: on the raised lift that one, on a cell the cell's belt
abbrev pub There : Bits → ℕ → Type 0
There f k = holds (cond (eqb k raised_car) lift_raised (belt_there (belt_of k))) f ≡ true
