-- However far the instructions are. One that waits for its result may have finished, and so may one that was reported stuck, in any order,
-- and nobody has heard of it: the result is on its way, lost, or cut off with the power. `HoweverFar` says what holds then. Proved in
-- proofs/Motion.antt. Assumes nothing.
use Rattle.std.specs.Prelude.{◌≡◌, Bool, true, false, not, cond, List, [], ◌∷◌, ℕ, ◌<◌, length}
use Rattle.bits.specs.Bits.{bit, image}
use Rattle.floor.specs.Cars.{Car, Layout}
use Rattle.floor.specs.Sound.{Sound}
use Rattle.rules.specs.declared.Code.{Code}
use Rattle.station.specs.declared.Station.{Station}
use Rattle.station.specs.Held.{code_at, held_allowed, held_next}
use Rattle.station.specs.Station.{present_issue, marked}
use Rattle.station_laws.specs.Runs.{Call, result_call, calls, Begins}
use Rattle.station_laws.specs.Orders.{Fair}
use Rattle.station_laws.specs.Jams.{stuck, jam_at, has, Picks, applied, Chosen}

-- ---- which instructions may have finished

-- an instruction that may have finished: one of the outstanding set, or one of the stuck ones, by its number there
pub data Moving : Type 0 where
  of_set : ℕ → Moving
  of_stuck : ℕ → Moving

-- the numbers of those in a list that are of the set, and of those that are stuck
abbrev pub set_numbers : List Moving → List ℕ
set_numbers [] = []
set_numbers (of_set i ∷ p) = i ∷ set_numbers p
set_numbers (of_stuck j ∷ p) = set_numbers p

abbrev pub stuck_numbers : List Moving → List ℕ
stuck_numbers [] = []
stuck_numbers (of_set i ∷ p) = stuck_numbers p
stuck_numbers (of_stuck j ∷ p) = j ∷ stuck_numbers p

-- a list has this instruction
abbrev pub is_among : List Moving → Moving → Bool
is_among p (of_set i) = has (set_numbers p) i
is_among p (of_stuck j) = has (stuck_numbers p) j

-- after these calls, the instructions of p may have finished unheard of, in this order: some of the set, of which none has its result, and
-- some of the stuck ones, none twice
pub record Unheard (s : Station) (l : List Call) (p : List Moving) : Type 0 where
  pub from_set : Picks (calls s l).count (set_numbers p)
  pub waiting : (i : ℕ) → is_among p (of_set i) ≡ true → marked (calls s l) i ≡ false
  pub from_stuck : Chosen s l (stuck_numbers p)

-- ---- the floor in fact

-- the five bytes of an instruction, from the bytes of the set and the stuck ones
abbrev pub moving_code : List ℕ → List Code → Moving → Code
moving_code set js (of_set i) = code_at set i
moving_code set js (of_stuck j) = jam_at js j

-- a record with these applied, one after the other
abbrev pub moved_on : List ℕ → List Code → List Moving → ℕ → ℕ
moved_on set js [] r = r
moved_on set js (m ∷ p) r = moved_on set js p (image (held_next (moving_code set js m) (bit r)))

-- the floor in fact: the record after these calls, with the instructions of p applied
abbrev pub in_fact : Station → List Call → List Moving → ℕ
in_fact s l p = moved_on (calls s l).set (stuck s l) p (calls s l).bits

-- ---- what holds of it

-- 1. it is sound: its occupied places can be laid out as whole cars, none on another, each on belts that are there
abbrev pub LaidOutInFact : Station → List Call → List Moving → Type 0
LaidOutInFact s l p = Sound (bit (in_fact s l p))

-- and it has as many cars as the record
abbrev pub CarsInFact : Station → List Call → List Moving → Type 0
CarsInFact s l p =
    (noted found : List Car) → Layout (bit (calls s l).bits) noted → Layout (bit (in_fact s l p)) found → length found ≡ length noted

-- 2. the order in which they finished makes no difference
abbrev pub AnyOrderInFact : Station → List Call → List Moving → Type 0
AnyOrderInFact s l p = (q : List Moving) → Unheard s l q → ((m : Moving) → is_among q m ≡ is_among p m) → in_fact s l q ≡ in_fact s l p

-- 3. an instruction of the set that has no result, and has not finished, is still allowed on it
abbrev pub AllowedInFact : Station → List Call → List Moving → Type 0
AllowedInFact s l p =
    (i : ℕ) → i < (calls s l).count → marked (calls s l) i ≡ false → is_among p (of_set i) ≡ false
    → held_allowed (code_at (calls s l).set i) (bit (in_fact s l p)) ≡ true

-- all instructions of the set that have no result, each once, in any order
pub record AllWaiting (t : Station) (q : List ℕ) : Type 0 where
  pub once : Picks t.count q
  pub all : (i : ℕ) → i < t.count → has q i ≡ not (marked t i)

-- their results, of the set with issue k, as it happened: done for those that have finished, failed for the others
abbrev pub as_it_happened : ℕ → List Moving → List ℕ → List Call
as_it_happened k p [] = []
as_it_happened k p (i ∷ q) = result_call k i (cond (is_among p (of_set i)) 1 0) ∷ as_it_happened k p q

-- 4. when the results of all that wait come as it happened, in any order, each is accepted, and the record then, with the stuck ones of p
-- applied, is the floor in fact
abbrev pub HeardInFact : Station → List Call → List Moving → Type 0
HeardInFact s l p =
    (q : List ℕ) → AllWaiting (calls s l) q
    → Fair (calls s l) (as_it_happened (present_issue (calls s l)) p q)
    × (applied (stuck s l) (stuck_numbers p) (calls (calls s l) (as_it_happened (present_issue (calls s l)) p q)).bits ≡ in_fact s l p)

-- whatever calls came before, images too, and whichever instructions that wait or are stuck have finished unheard of: the floor is sound,
-- with as many cars as the record, whatever their order; the others are allowed on it; and the results lead the record there
abbrev pub HoweverFar : Type 0
HoweverFar =
    (s : Station) → Begins s → (l : List Call) (p : List Moving) → Unheard s l p
    → LaidOutInFact s l p × CarsInFact s l p × AnyOrderInFact s l p × AllowedInFact s l p × HeardInFact s l p

-- an order of all that wait, as the fourth asks for, exists on every station
abbrev pub WaitingListed : Type 0
WaitingListed = (t : Station) → (q : List ℕ) × AllWaiting t q
