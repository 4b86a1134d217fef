-- The table is right: a computation over the definitions, in two parts, so that a fault in each is found by itself. Assumes nothing.
use mathlib.Core.Bool.{◌&&◌}
use mathlib.Core.List.{List, [], ◌∷◌}
use Prim.Native.Nat.{ℕ, zero, suc}
use lib.Dec.{T}
use lib.ListN.{take, drop}
use Rattle.bits.proofs.Cases.{both, and_intro, T→true, true→T}
use Rattle.examples.specs.Table.{ExampleStep, Right, example_table, all_right, steps_right}
use Rattle.bits.specs.Bits.{packed}
use Rattle.bits.specs.Search.{some, every, least}
use Rattle.floor.specs.Cars.{cars}
use Rattle.floor.specs.Sound.{paired, sound, total}
use Rattle.rules.specs.Rules.{allowed, next_record}
use Rattle.rules.specs.Events.{in_turn, possible, places_open, after_event}
use Rattle.rules.specs.Codes.{code_of, read_code}
use Rattle.rules.specs.Verdicts.{verdict_of, code_verdict}
use Rattle.station.specs.Held.{code_at, is_good, held_area, held_allowed, held_next, held_after, held_parts, parts_in, touches, overlaps_earlier, lift_in, crosses_drive}
use Rattle.station.specs.Station.{start_of, fit, answering}
use Rattle.station.specs.Calls.{accepted, spared, cleared, requested, request, occurred, driven, evented, event, ended, numbered, timely, resulted, result, imaged, take_image}

-- P1 to P7
up_to_7 : T (all_right (take 7 example_table))
unfolding all_right steps_right cars paired sound total packed some every least code_of read_code allowed next_record verdict_of code_verdict in_turn possible places_open after_event
    code_at is_good held_area held_allowed held_next held_after held_parts parts_in touches overlaps_earlier lift_in crosses_drive fit answering
    accepted spared cleared requested request occurred driven evented event ended numbered timely resulted result imaged take_image
up_to_7 = tt

-- P8 to P12, and the lines below them
from_8 : T (all_right (drop 7 example_table))
unfolding all_right steps_right cars paired sound total packed some every least code_of read_code allowed next_record verdict_of code_verdict in_turn possible places_open after_event
    code_at is_good held_area held_allowed held_next held_after held_parts parts_in touches overlaps_earlier lift_in crosses_drive fit answering
    accepted spared cleared requested request occurred driven evented event ended numbered timely resulted result imaged take_image
from_8 = tt

-- two parts of a table make it whole
joined : (n : ℕ) (l : List (List ExampleStep)) → T (all_right (take n l)) → T (all_right (drop n l)) → T (all_right l)
unfolding all_right
joined zero l a b = b
joined (suc n) [] a b = a
joined (suc n) (x ∷ l) a b =
    let (p, q) = both (steps_right start_of x) (all_right (take n l)) (T→true (steps_right start_of x && all_right (take n l)) a) in
    true→T (and_intro p (T→true (all_right l) (joined n l (true→T q) b)))

pub right : Right
right = joined 7 example_table up_to_7 from_8
