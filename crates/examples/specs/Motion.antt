-- A worked example of HoweverFar: a set of two is outstanding and a third instruction is stuck. What HoweverFar asks can be met, and the
-- floor in fact is told in full. Assumes nothing.
use Rattle.std.specs.Prelude.{◌≡◌, List, [], ◌∷◌}
use Rattle.floor.specs.Floor.{left, right, basement}
use Rattle.rules.specs.declared.Instruction.TheVariants.{Lift}
use Rattle.station.specs.Station.{start_of}
use Rattle.station_laws.specs.Runs.{Call, calls, Begins}
use Rattle.station_laws.specs.Motion.{Moving, of_set, of_stuck, Unheard, in_fact, AllWaiting, as_it_happened}
use Rattle.examples.specs.Table.{begin_in, end_done, set_request, stuck_result, lowers}

-- from the start a car is driven in; the left shuttle of row 3 sticks as it is lowered; then the lift is to go to the basement, and the
-- right shuttle of row 3 to be lowered, and nothing is heard of either
abbrev pub going_on : List Call
going_on = begin_in ∷ end_done ∷ set_request (lowers left ∷ []) ∷ stuck_result 0 0 ∷ set_request (Lift basement ∷ lowers right ∷ []) ∷ []

-- all three have finished, the lift last; or the lift has not
abbrev pub all_three : List Moving
all_three = of_set 1 ∷ of_stuck 0 ∷ of_set 0 ∷ []

abbrev pub only_two : List Moving
only_two = of_stuck 0 ∷ of_set 1 ∷ []

-- what HoweverFar asks of these calls and choices holds; the record has the car on the raised lift and both shuttles tilted, the floor in
-- fact has them as they are; both results are on their way, and come with the second first
pub record WorkedExample : Type 0 where
  pub begins : Begins start_of
  pub three : Unheard start_of going_on all_three
  pub two : Unheard start_of going_on only_two
  pub noted : (calls start_of going_on).bits ≡ 0x00191B0000000000
  pub three_in_fact : in_fact start_of going_on all_three ≡ 0x00403F0000001800
  pub two_in_fact : in_fact start_of going_on only_two ≡ 0x00103F0000000000
  pub last_first : AllWaiting (calls start_of going_on) (1 ∷ 0 ∷ [])
  pub three_heard : (calls (calls start_of going_on) (as_it_happened 1 all_three (1 ∷ 0 ∷ []))).bits ≡ 0x00413B0000001800
