-- A plan as calls of the station: the image, and for each set its request and a success of each of its instructions; and a plan as its bytes.
-- Assumes nothing.
use Rattle.std.specs.Prelude.{◌≡◌, Bool, List, [], ◌∷◌, ◌++◌, ℕ, zero, suc, ◌*◌, ◌^◌, ◌≤◌, ◌<◌, length, get_or, take}
use Rattle.bits.specs.Bits.{bit}
use Rattle.floor.specs.Tests.{holds}
use Rattle.codec.specs.Bytes.{little_endian}
use Rattle.wire.specs.Kinds.{set_of}
use Rattle.station.specs.declared.Station.{Station}
use Rattle.station.specs.Station.{start_of, present_issue}
use Rattle.station_laws.specs.Runs as run
use Rattle.station_laws.specs.Runs.{Call, call, answer_number, station_after, calls}
use Rattle.plan.specs.declared.Grounds.{Grounds}
use Rattle.plan.specs.Plans.{PlanSet, Plan, plan_size, plan_in, refused_set, wished}

-- ---- its calls

-- its image
abbrev pub plan_image : Plan → Call
plan_image p = run.image_call p.bits p.apart

-- the request of a set
abbrev pub request_of_set : PlanSet → Call
request_of_set x = run.request x.count (set_of x.bytes)

-- instruction i of the set with issue k succeeds; the first n of them do, one after the other
abbrev pub success : ℕ → ℕ → Call
success k i = run.result_call k i 1

abbrev pub successes : ℕ → ℕ → List Call
successes k zero = []
successes k (suc n) = successes k n ++ (success k n ∷ [])

-- the station on which a set is outstanding; after all its instructions succeed
abbrev pub set_opened : Station → PlanSet → Station
set_opened s x = station_after s (request_of_set x)

abbrev pub after_set : Station → PlanSet → Station
after_set s x = calls (set_opened s x) (successes (present_issue (set_opened s x)) x.count)

-- after some sets, one after the other
abbrev pub after_sets : Station → List PlanSet → Station
after_sets s [] = s
after_sets s (x ∷ xs) = after_sets (after_set s x) xs

-- each of them is taken in its turn
abbrev pub EachTaken : Station → List PlanSet → Type 0
EachTaken s [] = Unit {0}
EachTaken s (x ∷ xs) = (answer_number s (request_of_set x) ≡ 0) × EachTaken (after_set s x) xs

-- set k is refused on a station: the grounds by that station's own answer to a request of it
abbrev pub set_refused : ℕ → Station → PlanSet → Grounds
set_refused k s x = refused_set k s.bits (set_of x.bytes) (call s (request_of_set x)).answer

-- the station that the image of a plan leaves; that set k meets; set k itself; the last record
abbrev pub started : Plan → Station
started p = station_after start_of (plan_image p)

abbrev pub met_by : Plan → ℕ → Station
met_by p k = after_sets (started p) (take k p.sets)

abbrev pub set_of_plan : Plan → ℕ → PlanSet
set_of_plan p k = get_or p.sets k (record { count = 0; bytes = [] })

abbrev pub last_record : Plan → ℕ
last_record p = (after_sets (started p) p.sets).bits

-- the last record meets the wish, or doesn't
abbrev pub meets : Plan → Bool
meets p = holds (wished p.wish) (bit (last_record p))

-- ---- its bytes

-- the bytes of a set; of sets; of a plan
abbrev pub set_bytes : PlanSet → List ℕ
set_bytes x = x.count ∷ x.bytes

abbrev pub sets_bytes : List PlanSet → List ℕ
sets_bytes [] = []
sets_bytes (x ∷ xs) = set_bytes x ++ sets_bytes xs

abbrev pub plan_bytes : Plan → List ℕ
plan_bytes p = little_endian 8 p.bits ++ (little_endian 8 p.apart ++ (p.wish ∷ length p.sets ∷ sets_bytes p.sets))

-- some bytes are a plan's: neither cut short nor with bytes left over, and the wish is one of the two
pub record IsPlan (s : List ℕ) : Type 0 where
  pub whole : length s ≡ plan_size (plan_in s)
  pub wish : (plan_in s).wish ≤ 1

-- sets whose bytes are five for each instruction
abbrev pub Fives : List PlanSet → Type 0
Fives [] = Unit {0}
Fives (x ∷ xs) = (length x.bytes ≡ 5 * x.count) × Fives xs

-- a plan as code holds it: two numbers of 64 bits, one of the two wishes, and sets
pub record PlanTyped (p : Plan) : Type 0 where
  pub bits : p.bits < 2 ^ 64
  pub apart : p.apart < 2 ^ 64
  pub wish : p.wish ≤ 1
  pub sets : Fives p.sets
