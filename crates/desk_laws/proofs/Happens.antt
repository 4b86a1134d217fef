-- The examples of specs/Following.antt and specs/Motion.antt are right: computations over the definitions. Assumes nothing.
use mathlib.Core.Path.{◌≡◌, refl}
use mathlib.Core.List.{List, [], ◌∷◌, ◌++◌}
use Prim.Native.Nat.{ℕ}
use lib.Dec.{lit<}
use lib.ListN.{replicate}
use Rattle.bits.specs.Bits.{packed}
use Rattle.bits.specs.Search.{some, every, least}
use Rattle.bits.proofs.Cases.{clash}
use Rattle.bits.proofs.Digits.{bit_none}
use Rattle.floor.specs.Cars.{cars}
use Rattle.floor.specs.Sound.{paired, sound, total}
use Rattle.rules.specs.Rules.{allowed, next_record}
use Rattle.rules.specs.Events.{in_turn, possible, places_open, after_event}
use Rattle.rules.specs.Codes.{code_of, read_code, read_event}
use Rattle.rules.specs.Verdicts.{verdict_of, code_verdict}
use Rattle.station.specs.Held.{code_at, is_good, held_area, held_allowed, held_next, held_after, held_parts, parts_in}
use Rattle.station.specs.Held.{touches, overlaps_earlier, lift_in, crosses_drive}
use Rattle.station.specs.Station.{fit, answering}
use Rattle.station.specs.Calls.{accepted, spared, cleared, requested, occurred, driven, evented}
use Rattle.station.specs.Calls.{request, event, ended, numbered, timely, resulted}
use Rattle.cards.specs.Following.{numbers_taken, numbers_after, numbers_driven}
use Rattle.cards.specs.Held.{listed_numbers, held_numbers, numbers_in, cards_after, code_cards, cards_driven, cards_fit, is_known, where_is}
use Rattle.station.specs.declared.Station.{Station}
use Rattle.station_laws.specs.Runs.{calls}
use Rattle.station_laws.specs.Motion.{of_set}
use Rattle.std.specs.declared.result.Result.TheVariants.{Ok}
use Rattle.desk.specs.declared.Whereabouts.TheVariants.{At, Moving}
use Rattle.desk.specs.Desk.{start_desk, desk_fit}
use Rattle.desk.specs.Calls as calling
use Rattle.desk.specs.Questions.{mover_of, place_known, whereabouts}
use Rattle.desk_laws.specs.Following.{FollowHappens}
use Rattle.desk_laws.specs.Following.{down_with_seven}
use Rattle.desk_laws.specs.Runs.{DeskCall, calls_desk, below}
use Rattle.desk_laws.specs.Motion.{cards_in_fact, UnheardAt, MovingHappens, beside_seven, SureHappens}

pub follow_happens : FollowHappens
unfolding cars paired sound total packed some every least code_of read_code read_event allowed next_record verdict_of code_verdict
    in_turn possible places_open after_event
    code_at is_good held_area held_allowed held_next held_after held_parts parts_in touches overlaps_earlier lift_in crosses_drive fit answering
    accepted spared cleared requested occurred driven evented ended numbered timely resulted
    numbers_taken numbers_after numbers_driven listed_numbers held_numbers numbers_in cards_after code_cards cards_driven cards_fit is_known
    desk_fit calling.desk_request calling.desk_result calling.desk_begun calling.desk_event
follow_happens = (refl, refl, refl)

-- ---- cars in motion

-- one instruction waits, and none has its result
waits_one : (l : List DeskCall) (s : Station) → calls start_desk.station (below start_desk l) ≡ s → s.count ≡ 1 → s.answered ≡ 0
    → UnheardAt start_desk l (of_set 0 ∷ [])
waits_one l s q n m = record {
  from_set = rw (q, n) (lit< tt, refl, tt);
  waiting = λ i e. rw (q, m) (bit_none i);
  from_stuck = tt;
}

none_finished : (l : List DeskCall) → UnheardAt start_desk l []
none_finished l = record { from_set = tt; waiting = λ i e. clash e refl; from_stuck = tt }

-- the station below, with one instruction of a set
abbrev with_one : ℕ → List ℕ → Station
with_one r code = record { bits = r; count = 1; answered = 0; set = code ++ replicate 35 0; next = 1; apart = 0 }

down_computed :
    (whereabouts (calls_desk start_desk down_with_seven) 7 ≡ Ok (Moving 52 11))
    × (calls start_desk.station (below start_desk down_with_seven) ≡ with_one 0x00191B0000000000 (4 ∷ 2 ∷ 0 ∷ 0 ∷ 0 ∷ []))
    × (numbers_in (cards_in_fact start_desk down_with_seven (of_set 0 ∷ [])) 11 ≡ 7)
    × (numbers_in (cards_in_fact start_desk down_with_seven []) 52 ≡ 7)
unfolding cars paired sound total packed some every least code_of read_code read_event allowed next_record verdict_of code_verdict
    in_turn possible places_open after_event
    code_at is_good held_area held_allowed held_next held_after held_parts parts_in touches overlaps_earlier lift_in crosses_drive fit answering
    accepted spared cleared requested request occurred driven evented event ended numbered timely resulted
    numbers_taken numbers_after numbers_driven listed_numbers held_numbers numbers_in cards_after code_cards cards_driven cards_fit is_known where_is
    desk_fit calling.desk_request calling.desk_result calling.desk_begun calling.desk_event mover_of place_known whereabouts
down_computed = (refl, refl, refl, refl)

pub moving_happens : MovingHappens
moving_happens =
    let (a, b, c, e) = down_computed in
    (a, waits_one down_with_seven _ b refl refl, c, none_finished down_with_seven, e)

beside_computed :
    (whereabouts (calls_desk start_desk beside_seven) 7 ≡ Ok (At 52))
    × (calls start_desk.station (below start_desk beside_seven) ≡ with_one 0x00191B0000000000 (1 ∷ 3 ∷ 2 ∷ 0 ∷ 1 ∷ []))
    × (numbers_in (cards_in_fact start_desk beside_seven (of_set 0 ∷ [])) 52 ≡ 7)
unfolding cars paired sound total packed some every least code_of read_code read_event allowed next_record verdict_of code_verdict
    in_turn possible places_open after_event
    code_at is_good held_area held_allowed held_next held_after held_parts parts_in touches overlaps_earlier lift_in crosses_drive fit answering
    accepted spared cleared requested request occurred driven evented event ended numbered timely resulted
    numbers_taken numbers_after numbers_driven listed_numbers held_numbers numbers_in cards_after code_cards cards_driven cards_fit is_known where_is
    desk_fit calling.desk_request calling.desk_result calling.desk_begun calling.desk_event mover_of place_known whereabouts
beside_computed = (refl, refl, refl)

pub sure_happens : SureHappens
sure_happens = let (a, b, c) = beside_computed in (a, waits_one beside_seven _ b refl refl, c)
