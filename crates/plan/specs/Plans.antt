-- Document 02's plans: a starting image, sets of instructions one after the other, and a wish of the last record. What the bytes of a plan
-- say, how it is judged and on what grounds: by the station's own calls, from its start. Assumes nothing.
use Rattle.std.specs.Prelude.{ℕ, zero, suc, ◌+◌, ◌*◌, ◌^◌, Bool, cond, List, [], ◌∷◌, length, take, drop, ◌==◌, bit_and, nat_eq, nat_lt, slice_index}
use Rattle.bits.specs.Bits.{bit}
use Rattle.bits.specs.Places.{share}
use Rattle.bits.specs.Search.{least}
use Rattle.floor.specs.Floor.{raised_car, street}
use Rattle.floor.specs.Tests.{Test, set, free, both, holds, height_is}
use Rattle.codec.specs.Bytes.{from_little_endian}
use Rattle.answers.specs.declared.Answer.{Answer}
use Rattle.answers.specs.declared.Answer.TheVariants.{TooFewBytes, BadField, Overlap, OutOfTurn}
use Rattle.answers.specs.Answers.{number_of, place_of, nowhere}
use Rattle.wire.specs.Kinds.{set_of}
use Rattle.station.specs.declared.Station.{Station}
use Rattle.station.specs.declared.Outcome.{Outcome}
use Rattle.station.specs.Held.{code_at, held_area, held_parts}
use Rattle.station.specs.Station.{start_of, present_issue}
use Rattle.station.specs.Calls.{requested, resulted, imaged}
use Rattle.plan.specs.declared.Judged.{Judged}
use Rattle.plan.specs.declared.Grounds.{Grounds}

-- ---- a plan, and its bytes

-- one of its sets: how many instructions, and their bytes, five each
pub record PlanSet : Type 0 where
  pub count : ℕ
  pub bytes : List ℕ

-- a plan: the starting record, what is set apart there, the wish, and the sets
pub record Plan : Type 0 where
  pub bits : ℕ
  pub apart : ℕ
  pub wish : ℕ
  pub sets : List PlanSet

-- the bytes that a set takes: its count, and five for each instruction; that sets take
abbrev pub size_of : PlanSet → ℕ
size_of x = 1 + 5 * x.count

abbrev pub sizes : List PlanSet → ℕ
sizes [] = 0
sizes (x ∷ xs) = size_of x + sizes xs

-- the bytes before the sets: 8 for the record, 8 for what is set apart, the wish, and how many sets there are
abbrev pub head : ℕ
head = 18

-- the bytes that a plan takes
abbrev pub plan_size : Plan → ℕ
plan_size p = head + sizes p.sets

-- the set that a run of bytes begins with; bytes that are not there count as zero
abbrev pub set_in : List ℕ → PlanSet
set_in s = record { count = slice_index s 0; bytes = take (5 * slice_index s 0) (drop 1 s) }

-- so many sets, one after the other
abbrev pub sets_in : ℕ → List ℕ → List PlanSet
sets_in zero s = []
sets_in (suc n) s = set_in s ∷ sets_in n (drop (size_of (set_in s)) s)

-- the plan that a run of bytes begins with
abbrev pub plan_in : List ℕ → Plan
plan_in s =
    record {
      bits = from_little_endian 8 0 s;
      apart = from_little_endian 8 8 s;
      wish = slice_index s 16;
      sets = sets_in (slice_index s 17) (drop head s);
    }

-- ---- its judgement, and the grounds of it

-- the numbers that plans alone have: more than 64 sets, and a wish that is not met
abbrev pub too_many_sets_number : ℕ
too_many_sets_number = 35

abbrev pub wish_not_met_number : ℕ
wish_not_met_number = 36

-- a number, and no set
abbrev pub plainly : ℕ → Judged
plainly number = record { number = number; set = 255 }

-- a whole plan's grounds: a number and a record; no set, no instruction, no part
abbrev pub wholly : ℕ → ℕ → Grounds
wholly number bits = record { number = number; set = 255; place = nowhere; earlier = nowhere; parts = 0; bits = bits }

-- instruction i of a set overlaps instruction j; the first before i that it overlaps, i where there is none; the parts that both take
abbrev pub overlaps_that : List ℕ → ℕ → ℕ → Bool
overlaps_that held i j = share (held_area (code_at held i)) (held_area (code_at held j))

abbrev pub first_overlapped : List ℕ → ℕ → ℕ
first_overlapped held i = least i (overlaps_that held i)

abbrev pub shared_parts : List ℕ → ℕ → ℕ → ℕ
shared_parts held i j = bit_and (held_parts (code_at held i)) (held_parts (code_at held j))

-- set k is refused so on a record: its instruction's place; of an overlap the first earlier one, and the parts that both take; of an
-- instruction out of turn the lift
unfoldable pub refused_set : ℕ → ℕ → List ℕ → Answer → Grounds
refused_set k bits held a =
    let overlapping = nat_eq (number_of a) (number_of (Overlap nowhere)) in
    let earlier = first_overlapped held (place_of a) in
    record {
      number = number_of a;
      set = k;
      place = place_of a;
      earlier = cond overlapping earlier nowhere;
      parts = cond overlapping (shared_parts held (place_of a) earlier) (cond (number_of a == number_of OutOfTurn) (2 ^ raised_car) 0);
      bits = bits;
    }

-- what is wished of the last record: the lift is at street, 0 without a car, 1 with one
abbrev pub wished : ℕ → Test
wished wish = both (height_is street) (cond (wish == 1) (set (raised_car ∷ [])) (free (raised_car ∷ [])))

-- the most sets that a plan may have
abbrev pub most_sets : ℕ
most_sets = 64

-- a set is requested on a station
abbrev pub set_asked : Station → PlanSet → Outcome
set_asked s x = requested s x.count (set_of x.bytes)

-- the station after instruction i of its set succeeds; after the first n of them, one after the other
abbrev pub after_success : Station → ℕ → Station
after_success s i = (resulted s (record { issue = present_issue s; number = i; ending = 1 })).station

unfoldable pub succeeded : ℕ → Station → Station
succeeded zero s = s
succeeded (suc n) s = after_success (succeeded n s) n

-- the sets from number k on, on the station that those before it left: the first that is refused, on the record before it; else the wish, on
-- the last record
unfoldable pub tried : ℕ → ℕ → Station → List PlanSet → Grounds
tried wish k s [] = wholly (cond (holds (wished wish) (bit s.bits)) 0 wish_not_met_number) s.bits
tried wish k s (x ∷ xs) =
    let o = set_asked s x in
    cond (number_of o.answer == 0) (tried wish (suc k) (succeeded x.count o.station) xs)
    (refused_set k s.bits (set_of x.bytes) o.answer)

-- the image on the start station
abbrev pub imaged_at : Plan → Outcome
imaged_at p = imaged start_of (record { bits = p.bits; apart = p.apart })

-- a plan: 15 by its image, 35 for more than 64 sets, then its sets and its wish; where no set is tried there is no record
unfoldable pub weighed : Plan → Grounds
weighed p =
    let o = imaged_at p in
    let number = number_of o.answer in
    cond (number == 0)
    (cond (nat_lt most_sets (length p.sets)) (wholly too_many_sets_number 0) (tried p.wish 0 o.station p.sets))
    (wholly number 0)

-- the bytes of a plan: 1 where they are cut short, 4 for a wish that is neither or for bytes left over, then the plan
unfoldable pub grounds_of : List ℕ → Grounds
grounds_of s =
    let p = plan_in s in
    cond (nat_lt (length s) (plan_size p)) (wholly (number_of TooFewBytes) 0)
    (cond (nat_lt 1 p.wish) (wholly (number_of (BadField nowhere)) 0)
    (cond (nat_lt (plan_size p) (length s)) (wholly (number_of (BadField nowhere)) 0)
    (weighed p)))

-- the judgement is their number, and their set
abbrev pub judged_by : Grounds → Judged
judged_by g = record { number = g.number; set = g.set }

unfoldable pub judgement : List ℕ → Judged
judgement s = judged_by (grounds_of s)
