-- Instructions as a station holds them: the request's own five bytes each. Bytes that say no instruction have an empty area, are
-- never allowed and change nothing. Assumes nothing.
use Rattle.std.specs.Prelude.{ℕ, ◌*◌, Bool, true, false, cond, not, ◌&&◌, List, [], drop, ◌==◌, nat_lt}
use Rattle.bits.specs.Bits.{Bits, bit, image}
use Rattle.bits.specs.Places.{elem, share}
use Rattle.bits.specs.Search.{some}
use Rattle.floor.specs.Floor.{lift, raised_car}
use Rattle.floor.specs.Tests.{holds, under_way}
use Rattle.answers.specs.declared.Answer.{Answer}
use Rattle.rules.specs.declared.Code.{Code}
use Rattle.rules.specs.Rules.{area_of, allowed, next_record}
use Rattle.rules.specs.Codes.{read_code, code_from}
use Rattle.rules.specs.Verdicts.{on_code, code_verdict, answer_for}

-- instruction i of a set: its own five bytes
unfoldable pub code_at : List ℕ → ℕ → Code
code_at set i = code_from (drop (5 * i) set)

-- whether five bytes say an instruction; its area; whether a record allows it; the record after it
unfoldable pub is_good : Code → Bool
is_good x = on_code (λ i. true) false (read_code x)

unfoldable pub held_area : Code → List ℕ
held_area x = on_code area_of [] (read_code x)

unfoldable pub held_allowed : Code → Bits → Bool
held_allowed x f = on_code (λ i. allowed i f) false (read_code x)

unfoldable pub held_next : Code → Bits → Bits
held_next x f = on_code (λ i. next_record i f) f (read_code x)

-- the record after it, where the one before allows it; else that one
unfoldable pub held_after : Code → ℕ → ℕ
held_after x r = cond (held_allowed x (bit r)) (image (held_next x (bit r))) r

-- instruction i of a set is bad; overlaps an earlier one; is not allowed on the record with this image
abbrev pub bad : List ℕ → ℕ → Bool
bad set i = not (is_good (code_at set i))

unfoldable pub overlaps_earlier : List ℕ → ℕ → Bool
overlaps_earlier set i = some i (λ j. share (held_area (code_at set i)) (held_area (code_at set j)))

abbrev pub barred : List ℕ → ℕ → ℕ → Bool
barred set r i = not (held_allowed (code_at set i) (bit r))

-- instruction i has none of these marks, and is not allowed on the record with this image
abbrev pub stranded : ℕ → List ℕ → ℕ → ℕ → Bool
stranded marks set r i = not (bit marks i) && barred set r i

-- what is answered for instruction i on the record with this image: why it is not allowed
abbrev pub why_not : List ℕ → ℕ → ℕ → Answer
why_not set r i = answer_for (code_verdict (code_at set i) r) i

-- one of the first n instructions of a set has the lift in its area
unfoldable pub lift_in : List ℕ → ℕ → Bool
lift_in set n = some n (λ j. share (held_area (code_at set j)) lift)

-- an area as the number that shows what is set apart has it: its cells and slots in the record's own bits, the lift as bit 52 alone
unfoldable pub parts_in : List ℕ → Bits
parts_in a k = cond (nat_lt k raised_car) (elem k a) (k == raised_car && share a lift)

-- what is set apart where an instruction is stuck: everything in its area
unfoldable pub held_parts : Code → ℕ
held_parts x = image (parts_in (held_area x))

-- instruction i of a set touches a part that is set apart
unfoldable pub touches : List ℕ → ℕ → ℕ → Bool
touches set apart i = some 64 (λ k. bit (held_parts (code_at set i)) k && bit apart k)

-- a part of the lift is set apart
abbrev pub lift_apart : ℕ → Bool
lift_apart apart = bit apart raised_car

-- one of the first n instructions has the lift in its area and a drive is under way on the record with this image; the same of one alone
unfoldable pub crosses_drive : ℕ → List ℕ → ℕ → Bool
crosses_drive r set n = holds under_way (bit r) && lift_in set n

unfoldable pub crosses : Code → ℕ → Bool
crosses x r = holds under_way (bit r) && share (held_area x) lift
