-- Document 01's floor examples P1 to P12, with document 02's reasons, as one table: from the start, calls with what each is answered, and
-- the record between them. The calls are those that the contracts of the code cite. One claim says that the whole table is right.
-- Assumes nothing.
use Rattle.std.specs.Prelude.{Bool, true, false, ◌&&◌, List, [], ◌∷◌, ◌++◌, map, ℕ, T, eqb, length}
use Rattle.bits.specs.Places.{join}
use Rattle.floor.specs.Floor.{left, right, lowered, tilted, street, rotation, basement}
use Rattle.floor.specs.Sound.{total}
use Rattle.std.specs.declared.option.Option.{Option}
use Rattle.std.specs.declared.option.Option.TheVariants.{Some, None}
use Rattle.rules.specs.declared.Instruction.{Instruction}
use Rattle.rules.specs.declared.Instruction.TheVariants.{Belts, Shuttles, Tilt, Lift, Rotate}
use Rattle.rules.specs.Codes.{bytes_of}
use Rattle.answers.specs.Answers.{number_of, place_of, nowhere}
use Rattle.station.specs.declared.Station.{Station}
use Rattle.station.specs.declared.Outcome.{Outcome}
use Rattle.station.specs.Station.{start_of}
use Rattle.station_laws.specs.Runs.{Call, request, result_call, event, image_call, call}

-- ---- what an example is

-- a step of an example: a call that is answered with this number and place; the record is now this image; it is sound with so many cars; this
-- is set apart
pub data ExampleStep : Type 0 where
  answers : Call → ℕ → ℕ → ExampleStep
  holds : ℕ → ExampleStep
  cars : ℕ → ExampleStep
  apart : ℕ → ExampleStep

-- a record's total is so many cars, so it is sound
abbrev pub is_total : Option ℕ → ℕ → Bool
is_total (Some n) k = eqb n k
is_total None k = false

-- a call hands back this number and place
abbrev pub is_answer : Outcome → ℕ → ℕ → Bool
is_answer o number place = eqb (number_of o.answer) number && eqb (place_of o.answer) place

-- the steps are right, one after the other from this station
unfoldable pub steps_right : Station → List ExampleStep → Bool
steps_right s [] = true
steps_right s (answers c number place ∷ l) = is_answer (call s c) number place && steps_right (call s c).station l
steps_right s (holds r ∷ l) = eqb s.bits r && steps_right s l
steps_right s (cars n ∷ l) = is_total (total s.bits) n && steps_right s l
steps_right s (apart a ∷ l) = eqb s.apart a && steps_right s l

-- each example of a table is right from the start
unfoldable pub all_right : List (List ExampleStep) → Bool
all_right [] = true
all_right (x ∷ xs) = steps_right start_of x && all_right xs

-- ---- words of the table

-- a call is taken; it is refused with a number and no place
abbrev pub taken_step : Call → ExampleStep
taken_step c = answers c 0 nowhere

abbrev pub refused_step : Call → ℕ → ExampleStep
refused_step c number = answers c number nowhere

-- a drive begins, in or out; the one under way ends, done or not done
abbrev pub begin_in : Call
begin_in = event 1

abbrev pub begin_out : Call
begin_out = event 2

abbrev pub end_done : Call
end_done = event 3

abbrev pub end_not_done : Call
end_not_done = event 4

-- the request of a set of instructions
abbrev pub set_request : List Instruction → Call
set_request set = request (length set) (join (map bytes_of set))

-- the result of an instruction of the set with issue k
abbrev pub done_result : ℕ → ℕ → Call
done_result k i = result_call k i 1

abbrev pub failed_result : ℕ → ℕ → Call
failed_result k i = result_call k i 0

abbrev pub stuck_result : ℕ → ℕ → Call
stuck_result k i = result_call k i 2

-- an image that sets nothing apart
abbrev pub sees : ℕ → Call
sees r = image_call r 0

-- an instruction alone is accepted under issue k and done, and makes this record; alone, it is refused with a reason's number
abbrev pub makes : ℕ → Instruction → ℕ → List ExampleStep
makes k i r = taken_step (set_request (i ∷ [])) ∷ taken_step (done_result k 0) ∷ holds r ∷ []

abbrev pub barred_step : Instruction → ℕ → ExampleStep
barred_step i number = answers (set_request (i ∷ [])) number 0

-- the start record
abbrev pub S : ℕ
S = 0x00091B0000000000

-- the tilted shuttle of row 3 is lowered
abbrev pub lowers : ℕ → Instruction
lowers side = Tilt side 3 tilted

-- ---- the table, with the papers' images: its bytes are written there lowest first, here as one number

-- after P2 a car is on the lift; P4 brings it to the basement, P5 half onto the left belt
abbrev pub p2 : List ExampleStep
p2 = taken_step begin_in ∷ taken_step end_done ∷ refused_step begin_in 10 ∷ []

-- a drive-in is under way
abbrev pub p2_begun : List ExampleStep
p2_begun = taken_step begin_in ∷ cars 0 ∷ holds 0x00891B0000000000 ∷ []

abbrev pub p4 : List ExampleStep
p4 = p2 ++ makes 0 (Lift basement) 0x00491B0000001800

-- the most cars with the lift empty at street
abbrev pub filled28 : ℕ
filled28 = 0x00003FFFFFFFC3FF

-- both row-3 shuttles lowered in one set, the second with this result
abbrev pub p10 : ℕ → Call → ℕ → List ExampleStep
p10 k second r = taken_step (set_request (lowers left ∷ lowers right ∷ [])) ∷ taken_step (done_result k 0) ∷ taken_step second ∷ holds r ∷ []

abbrev pub example_table : List (List ExampleStep)
example_table =
    -- P1: S is sound, 0 cars
    (holds S ∷ cars 0 ∷ [])
    -- P2: car in on S, as its begin and done end, then car in again
    ∷ p2
    -- P3: car out on S
    ∷ (refused_step begin_out 10 ∷ [])
    -- P4: after P2, lift to basement
    ∷ p4
    -- P5: then row 1 mask 6, lower, half; lift to street now
    ∷ (p4 ++ makes 1 (Belts 1 6 0 0) 0x00491B0000000C00 ++ barred_step (Lift street) 24 ∷ [])
    -- P6: sound, 2 cars; lift up
    ∷ (taken_step (sees 0x00491B0000003C00) ∷ cars 2 ∷ barred_step (Lift rotation) 24 ∷ barred_step (Lift street) 24 ∷ [])
    -- P7: half a car
    ∷ (refused_step (sees 0x00091B0000000001) 15 ∷ [])
    -- P8: left lowered rows 1 and 2 higher
    ∷ (taken_step (sees 0x00091B0000000003) ∷ makes 0 (Shuttles left 3 lowered 1) 0x00091E0000100000)
    -- P9: the same with 06 first
    ∷ (taken_step (sees 0x00091B0000000006) ∷ barred_step (Shuttles left 3 lowered 1) 24 ∷ [])
    -- P10: on S, lower both row-3 shuttles in one set; right one failing
    ∷ (p10 0 (done_result 0 1) 0x00003F0000000000 ++ taken_step (sees S) ∷ p10 1 (failed_result 1 1) 0x00081F0000000000)
    -- P11: rotate, allowed; then with a car on one of its cells
    ∷ (taken_step (sees 0x00291B00000000C0) ∷ makes 0 Rotate 0x00291B00000000C0 ++ taken_step (sees 0x00291B0000000180) ∷ barred_step Rotate 28 ∷ [])
    -- P12: same tilt twice
    ∷ (answers (set_request (lowers left ∷ lowers left ∷ [])) 8 1 ∷ [])
    -- while a driver is in the lift: a second begin, a set with the lift at any place, and one without; the driver gives up, and the lift goes
    ∷ (p2_begun ++ refused_step begin_out 31 ∷ refused_step (set_request (lowers left ∷ Lift basement ∷ [])) 31 ∷ makes 0 (lowers left) 0x00881F0000000000
    ++ taken_step end_not_done ∷ refused_step end_done 31 ∷ makes 1 (Lift basement) 0x00481F0000000000)
    -- a set with the lift, outstanding: no drive begins
    ∷ (taken_step (set_request (Lift rotation ∷ [])) ∷ refused_step begin_in 6 ∷ taken_step (failed_result 0 0) ∷ p2_begun)
    -- a car is driven out: it counts until its done end
    ∷ (p2 ++ taken_step begin_out ∷ cars 1 ∷ holds 0x01191B0000000000 ∷ taken_step end_done ∷ cars 0 ∷ holds S ∷ [])
    -- after P4 the lift's belt and the left one jam: the record stays, their cells and the lift are apart, and nothing touches them, the least
    -- place told before an overlap; an image that sets something apart is none; after one that doesn't, the move is made
    ∷ (p4 ++ taken_step (set_request (Belts 1 6 0 1 ∷ lowers left ∷ [])) ∷ taken_step (stuck_result 1 0) ∷ taken_step (done_result 1 1) ∷ holds 0x00481F0000001800 ∷ cars 1 ∷ apart 0x0010000000001FFC
    ∷ refused_step (image_call 0x00481F0000001800 1) 15 ∷ answers (set_request (Tilt right 3 tilted ∷ Lift street ∷ Lift street ∷ [])) 32 1 ∷ apart 0x0010000000001FFC
    ∷ taken_step (sees 0x00481F0000001800) ∷ apart 0 ∷ makes 2 (Belts 1 6 0 1) 0x00481F0000000600)
    -- the lift is stuck at rotation: no drive begins
    ∷ (taken_step (set_request (Lift rotation ∷ [])) ∷ taken_step (stuck_result 0 0) ∷ refused_step end_done 31 ∷ refused_step begin_in 32 ∷ taken_step (sees S) ∷ taken_step begin_in ∷ [])
    -- places are kept open: with 28 cars or 27 no drive-in begins, with 26 one does, and then the lift is occupied; an image with more is
    -- taken, and with it the end of the drive-in under way, which makes 29
    ∷ (taken_step (sees filled28) ∷ cars 28 ∷ refused_step begin_in 33 ∷ taken_step (sees 0x00003F7FFFFFC3FF) ∷ cars 27 ∷ refused_step begin_in 33
    ∷ taken_step (sees 0x00003F3FFFFFC3FF) ∷ cars 26 ∷ taken_step begin_in ∷ cars 26 ∷ taken_step end_done ∷ cars 27 ∷ refused_step begin_in 10
    ∷ taken_step (sees 0x00803FFFFFFFC3FF) ∷ cars 28 ∷ refused_step begin_in 31 ∷ taken_step end_done ∷ cars 29 ∷ [])
    ∷ []

-- ---- the claim

-- every call of every example returns what the table says, and every record is the one given there
abbrev pub Right : Type 0
Right = T (all_right example_table)
