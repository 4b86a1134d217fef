-- What is promised of plans: when each number is told, by the calls of the station itself; that the order of results plays no part; and that
-- a plan has one form in bytes. Each is proved in proofs/. Assumes nothing.
use Rattle.std.specs.Prelude.{◌≡◌, ◌↔◌, ◌⊎◌, true, false, List, [], ℕ, ◌≤◌, ◌<◌, length, take}
use Rattle.codec.specs.Bytes.{Bytes}
use Rattle.answers.specs.declared.Answer.TheVariants.{TooFewBytes, BadField, TooMany, EmptySet, Overlap, Unsound, OutOfTurn}
use Rattle.answers.specs.Answers.{number_of, nowhere}
use Rattle.station.specs.Station.{start_of, present_issue}
use Rattle.station_laws.specs.Runs.{Call, answer_number, calls}
use Rattle.station_laws.specs.Orders.{succeeds, Order, Fair}
use Rattle.plan.specs.Plans.{Plan, plan_size, plan_in, plainly, most_sets, too_many_sets_number, wish_not_met_number, judgement}
use Rattle.plan_laws.specs.Trials.{plan_image, request_of_set, set_opened, after_set, EachTaken, started, met_by, set_of_plan, meets, plan_bytes, IsPlan, PlanTyped}

-- ---- when it is accepted, and what is told else

-- a plan whose image is taken by the start station, with no more sets than there may be
pub record PlanBegun (s : List ℕ) : Type 0 where
  pub form : IsPlan s
  pub image : answer_number start_of (plan_image (plan_in s)) ≡ 0
  pub few : length (plan_in s).sets ≤ most_sets

-- and each set is taken in its turn, all instructions of those before it succeeding
pub record PlanFollowed (s : List ℕ) : Type 0 where
  pub begun : PlanBegun s
  pub taken : EachTaken (started (plan_in s)) (plan_in s).sets

-- a plan is accepted exactly if it can be followed to its end and its last record meets the wish
abbrev pub PlanExactly : Type 0
PlanExactly = (s : List ℕ) → (judgement s ≡ plainly 0) ↔ (PlanFollowed s × (meets (plan_in s) ≡ true))

-- set k of a plan is the first that is refused, with this number: those before it are taken in their turn
pub record RefusedAt (s : List ℕ) (number k : ℕ) : Type 0 where
  pub begun : PlanBegun s
  pub within : k < length (plan_in s).sets
  pub before : EachTaken (started (plan_in s)) (take k (plan_in s).sets)
  pub told : answer_number (met_by (plan_in s) k) (request_of_set (set_of_plan (plan_in s) k)) ≡ number
  pub other : number ≡ 0 → ⊥

-- a number and a set are told exactly if that set is the first refused, with this number as its own
abbrev pub FirstRefused : Type 0
FirstRefused = (s : List ℕ) (number k : ℕ) → k < 255 → (judgement s ≡ record { number = number; set = k }) ↔ RefusedAt s number k

-- the others, in their order: 1 exactly if the bytes are cut short; 4 exactly if they are not, and the wish is neither or bytes are left over;
-- 15 exactly if they are a plan's, and the start station refuses the image so; 35 exactly if it takes the image, and there are more than 64
-- sets; 36 exactly if each set is taken in its turn, and the last record doesn't meet the wish
abbrev pub PlanOrder : Type 0
PlanOrder =
    (s : List ℕ)
    → ((judgement s ≡ plainly (number_of TooFewBytes)) ↔ (length s < plan_size (plan_in s)))
    × ((judgement s ≡ plainly (number_of (BadField nowhere))) ↔ ((plan_size (plan_in s) ≤ length s) × ((1 < (plan_in s).wish) ⊎ (plan_size (plan_in s) < length s))))
    × ((judgement s ≡ plainly (number_of Unsound)) ↔ (IsPlan s × (answer_number start_of (plan_image (plan_in s)) ≡ number_of Unsound)))
    × ((judgement s ≡ plainly too_many_sets_number) ↔ (IsPlan s × (answer_number start_of (plan_image (plan_in s)) ≡ 0) × (most_sets < length (plan_in s).sets)))
    × ((judgement s ≡ plainly wish_not_met_number) ↔ (PlanFollowed s × (meets (plan_in s) ≡ false)))

-- the numbers of a whole plan, and those of a set: never 6, 16 or 32
pub data OfPlan : ℕ → Type 0 where
  accepted : OfPlan 0
  cut_short : OfPlan (number_of TooFewBytes)
  not_aPlan : OfPlan (number_of (BadField nowhere))
  unsound : OfPlan (number_of Unsound)
  too_many_sets : OfPlan too_many_sets_number
  wish_not_met : OfPlan wish_not_met_number

pub data OfSet : ℕ → Type 0 where
  bad_field : OfSet (number_of (BadField nowhere))
  too_many : OfSet (number_of TooMany)
  empty_set : OfSet (number_of EmptySet)
  overlap : OfSet (number_of (Overlap nowhere))
  not_allowed : (k : ℕ) → 20 ≤ k → k ≤ 28 → OfSet k
  out_of_turn : OfSet (number_of OutOfTurn)

-- no other number is told: one of a whole plan with 255, or one of a set with the set's number, 0 to 63
abbrev pub PlanNumbers : Type 0
PlanNumbers =
    (s : List ℕ) → Bytes s
    → (OfPlan (judgement s).number × ((judgement s).set ≡ 255)) ⊎ (OfSet (judgement s).number × ((judgement s).set < most_sets))

-- ---- any order

-- of an accepted plan, each set's results in every order, all succeeding: each is taken and was allowed on the record at its turn, and they
-- leave the station that they leave in their own order
abbrev pub PlanAnyOrder : Type 0
PlanAnyOrder =
    (s : List ℕ) → Bytes s → judgement s ≡ plainly 0
    → (k : ℕ) → k < length (plan_in s).sets
    → (l : List Call) → Order (present_issue (set_opened (met_by (plan_in s) k) (set_of_plan (plan_in s) k))) (set_of_plan (plan_in s) k).count (λ i. succeeds) [] l
    → Fair (set_opened (met_by (plan_in s) k) (set_of_plan (plan_in s) k)) l
    × (calls (set_opened (met_by (plan_in s) k) (set_of_plan (plan_in s) k)) l ≡ after_set (met_by (plan_in s) k) (set_of_plan (plan_in s) k))

-- ---- bytes

-- a plan that was written reads back as itself
abbrev pub PlanReadsBack : Type 0
PlanReadsBack = (p : Plan) → PlanTyped p → IsPlan (plan_bytes p) × (plan_in (plan_bytes p) ≡ p)

-- bytes that are a plan's are those of the plan that they say
abbrev pub PlanOneForm : Type 0
PlanOneForm = (s : List ℕ) → Bytes s → IsPlan s → plan_bytes (plan_in s) ≡ s

-- no plan takes more than 325,398 bytes: of a longer input one byte more says as much as all of it
abbrev pub PlanLongest : Type 0
PlanLongest = (s : List ℕ) → Bytes s → 325398 < length s → (judgement s ≡ plainly (number_of (BadField nowhere))) × (judgement (take 325399 s) ≡ plainly 4)
