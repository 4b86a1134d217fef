-- What is promised of the grounds on which a plan is judged: they are what the station says of the refused set where it stands, the earlier
-- instruction does overlap and is the first that does, and the parts are touched. Each is proved in proofs/. Assumes nothing.
use Rattle.std.specs.Prelude.{◌≡◌, ◌⊎◌, true, false, cond, ◌&&◌, List, ℕ, ◌^◌, ◌<◌}
use Rattle.bits.specs.Bits.{bit}
use Rattle.floor.specs.Floor.{raised_car}
use Rattle.floor.specs.Tests.{holds, under_way}
use Rattle.answers.specs.declared.Answer.TheVariants.{TooFewBytes, BadField, Overlap, Unsound, OutOfTurn}
use Rattle.answers.specs.Answers.{number_of, nowhere}
use Rattle.rules.specs.declared.Instruction.{Instruction}
use Rattle.std.specs.declared.option.Option.TheVariants.{Some}
use Rattle.rules.specs.Rules.{area_of, overlap}
use Rattle.rules.specs.Codes.{read_code}
use Rattle.wire.specs.Kinds.{set_of}
use Rattle.station.specs.declared.Station.{Station}
use Rattle.station.specs.Held.{code_at, parts_in, lift_in}
use Rattle.station_laws.specs.Runs.{answer_number, fault_index}
use Rattle.plan.specs.declared.Grounds.{Grounds}
use Rattle.plan.specs.Plans.{PlanSet, plan_in, plainly, wholly, too_many_sets_number, wish_not_met_number, grounds_of, judgement}
use Rattle.plan_laws.specs.Trials.{request_of_set, met_by, set_of_plan, last_record, meets}
use Rattle.plan_laws.specs.Promises.{PlanFollowed, RefusedAt}

-- ---- a set that is refused

-- what a station says to a request of a set: its number, its place; and that station's record
pub record SaidThere (g : Grounds) (k : ℕ) (s : Station) (x : PlanSet) : Type 0 where
  pub number : g.number ≡ answer_number s (request_of_set x)
  pub set : g.set ≡ k
  pub place : g.place ≡ fault_index s (request_of_set x)
  pub bits : g.bits ≡ s.bits

-- of the first set that is refused the grounds are what the station says that took and finished those before it
abbrev pub RefusedAsThere : Type 0
RefusedAsThere =
    (s : List ℕ) (number k : ℕ) → RefusedAt s number k → SaidThere (grounds_of s) k (met_by (plan_in s) k) (set_of_plan (plan_in s) k)

-- instruction i of a set overlaps instruction j by the rules, and none before j; and these parts are those that both take, at least one
pub record FirstOverlap (held : List ℕ) (i j parts : ℕ) : Type 0 where
  pub one : Instruction
  pub other : Instruction
  pub says : read_code (code_at held i) ≡ Some one
  pub other_says : read_code (code_at held j) ≡ Some other
  pub earlier : j < i
  pub overlapping : overlap one other ≡ true
  pub first : (m : ℕ) (between : Instruction) → m < j → read_code (code_at held m) ≡ Some between → overlap one between ≡ false
  pub both : (k : ℕ) → k < 64 → bit parts k ≡ parts_in (area_of one) k && parts_in (area_of other) k
  pub some : parts ≡ 0 → ⊥

-- with 8 the earlier instruction is the first that the one at its place overlaps, and the parts are those that both take
abbrev pub OverlapNamed : Type 0
OverlapNamed =
    (s : List ℕ) (k : ℕ) → RefusedAt s (number_of (Overlap nowhere)) k
    → FirstOverlap (set_of (set_of_plan (plan_in s) k).bytes) (grounds_of s).place (grounds_of s).earlier (grounds_of s).parts

-- with 31 the part is the lift: a drive is under way on the record there, and an instruction of the set has the lift in its area
abbrev pub LiftNamed : Type 0
LiftNamed =
    (s : List ℕ) (k : ℕ) → RefusedAt s (number_of OutOfTurn) k
    → ((grounds_of s).parts ≡ 2 ^ raised_car) × (holds under_way (bit (grounds_of s).bits) ≡ true)
    × (lift_in (set_of (set_of_plan (plan_in s) k).bytes) (set_of_plan (plan_in s) k).count ≡ true)

-- with another number than 8 no earlier instruction is named, and with neither 8 nor 31 a part
abbrev pub NoneElse : Type 0
NoneElse =
    (s : List ℕ) (number k : ℕ) → (number ≡ number_of (Overlap nowhere) → ⊥) → RefusedAt s number k
    → ((grounds_of s).earlier ≡ nowhere) × ((number ≡ number_of OutOfTurn → ⊥) → (grounds_of s).parts ≡ 0)

-- ---- a whole plan

-- where all sets are taken the record is the last one
abbrev pub LastTold : Type 0
LastTold = (s : List ℕ) → PlanFollowed s → grounds_of s ≡ wholly (cond (meets (plan_in s)) 0 wish_not_met_number) (last_record (plan_in s))

-- where no set is tried there is no record
abbrev pub NoneTried : Type 0
NoneTried =
    (s : List ℕ) (number : ℕ) → (number ≡ number_of TooFewBytes)
    ⊎ ((number ≡ number_of (BadField nowhere)) ⊎ ((number ≡ number_of Unsound) ⊎ (number ≡ too_many_sets_number)))
    → judgement s ≡ plainly number → grounds_of s ≡ wholly number 0
