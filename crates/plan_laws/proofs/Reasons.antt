-- The grounds of a judgement: what the station says there, the first overlap, and the parts. Assumes nothing.
use mathlib.Core.Path.{◌≡◌, refl, sym, ap, ap₂, subst, ◌∙◌}
use mathlib.Core.Logic.{◌⊎◌, inl, inr}
use mathlib.Core.Bool.{Bool, true, false, not, cond, ◌&&◌}
use mathlib.Core.List.{List, [], ◌∷◌}
use Prim.Native.Nat.{ℕ, ◌^◌, ◌≤◌, ◌<◌}
use native.Mathlib.Omega.{arith}
use lib.Bits.{bit_and}
use lib.Dec.{eqb, ltb}
use borrow.Author.Tests.{eq-eqb, ne_eqb, ltb-true, ltb-false}
use Rattle.bits.specs.Bits.{bit}
use Rattle.bits.specs.Places.{share}
use Rattle.bits.specs.Search.{some, least, IsLeast}
use Rattle.bits.proofs.Cases.{split, clash}
use Rattle.bits.proofs.Search.{none_is}
use Rattle.bits.proofs.Least.{found_least, least_le, least_below}
use Rattle.bits.proofs.Digits.{bit_image}
use Rattle.bits.proofs.Operations.{bit_and_lem}
use Rattle.answers.specs.declared.Answer.{Answer}
use Rattle.answers.specs.Answers.{number_of, place_of, nowhere}
use Rattle.rules.specs.declared.Instruction.{Instruction}
use Rattle.std.specs.declared.option.Option.{Option}
use Rattle.std.specs.declared.option.Option.TheVariants.{Some, None}
use Rattle.rules.specs.Rules.{area_of, overlap}
use Rattle.rules.specs.Codes.{read_code}
use Rattle.rules.specs.Verdicts.{on_code}
use Rattle.wire.specs.Kinds.{set_of}
use Rattle.station.specs.declared.Station.{Station}
use Rattle.station.specs.Held.{code_at, held_area, held_parts, parts_in, overlaps_earlier}
use Rattle.station_laws.specs.Runs.{call, answer_number, fault_index}
use Rattle.station_laws.proofs.Demands.{places_right, lift_refused}
use Rattle.plan.specs.declared.Judged.{Judged}
use Rattle.plan.specs.declared.Grounds.{Grounds}
use Rattle.plan.specs.Plans.{PlanSet, plan_in, plainly, wholly, overlaps_that, first_overlapped, shared_parts, refused_set, grounds_of, judged_by}
use Rattle.plan.proofs.Parts.{share_parts}
use Rattle.plan_laws.specs.Trials.{request_of_set, set_refused, started, met_by, set_of_plan}
use Rattle.plan_laws.specs.Promises.{RefusedAt}
use Rattle.plan_laws.specs.Reasons.{SaidThere, RefusedAsThere, FirstOverlap, OverlapNamed, LiftNamed, NoneElse, LastTold, NoneTried}
use Rattle.plan_laws.proofs.Promises.{Case, cut, wrong, refused, many, stops, misses, follows, value, case_of, value_is, of_followed, stop_case, judged_is, stop_judged}

-- ---- a set that is refused

-- the grounds, by the answer of the station there
there : (s : List ℕ) {number k : ℕ} → RefusedAt s number k → grounds_of s ≡ set_refused k (met_by (plan_in s) k) (set_of_plan (plan_in s) k)
there s R = value_is s (stop_case s R)

-- their fields
module _ (k : ℕ) (s : Station) (x : PlanSet) where
  said_there : SaidThere (set_refused k s x) k s x
  unfolding refused_set
  said_there = record { number = refl; set = refl; place = refl; bits = refl }

pub refused_as_there : RefusedAsThere
refused_as_there s number k R =
    subst (λ (g : Grounds). SaidThere g k (met_by (plan_in s) k) (set_of_plan (plan_in s) k)) (sym (there s R)) (said_there k _ _)

-- ---- two that overlap

-- the bytes of two that overlap say instructions
module _ (held : List ℕ) (i j : ℕ) where
  pub record TwoSaid : Type 0 where
    pub one : Instruction
    pub other : Instruction
    pub says : read_code (code_at held i) ≡ Some one
    pub other_says : read_code (code_at held j) ≡ Some other

  no_place : (ks : List ℕ) → share ks [] ≡ false
  no_place [] = refl
  no_place (k ∷ ks) = no_place ks

  two_said : overlaps_that held i j ≡ true → TwoSaid
  unfolding held_area
  two_said e = read (read_code (code_at held i)) (read_code (code_at held j)) refl refl
    where
      read : (g h : (Option Instruction)) → read_code (code_at held i) ≡ g → read_code (code_at held j) ≡ h → TwoSaid
      read None h p q = clash e (rw p)
      read (Some a) None p q = clash e (rw (p, q) (no_place (area_of a)))
      read (Some a) (Some b) p q = record { one = a; other = b; says = p; other_says = q }

  -- and they overlap by the rules
  by_rules : (one other : Instruction) → read_code (code_at held i) ≡ Some one → read_code (code_at held j) ≡ Some other → overlaps_that held i j ≡ overlap one other
  unfolding held_area overlap
  by_rules one other p q = rw (p, q)

  -- the parts of both
  in_both : (one other : Instruction) → read_code (code_at held i) ≡ Some one → read_code (code_at held j) ≡ Some other
      → (k : ℕ) → k < 64 → bit (shared_parts held i j) k ≡ parts_in (area_of one) k && parts_in (area_of other) k
  unfolding held_parts held_area
  in_both one other p q k h =
      let a : bit (held_parts (code_at held i)) k ≡ parts_in (area_of one) k = bit_image (parts_in (held_area (code_at held i))) k h ∙ rw p in
      let b : bit (held_parts (code_at held j)) k ≡ parts_in (area_of other) k = bit_image (parts_in (held_area (code_at held j))) k h ∙ rw q in
      bit_and_lem (held_parts (code_at held i)) (held_parts (code_at held j)) k ∙ ap₂ ◌&&◌ a b

  some_shared : overlaps_that held i j ≡ true → shared_parts held i j ≡ 0 → ⊥
  some_shared e z = clash (sym (share_parts (code_at held i) (code_at held j)) ∙ e) (ap not (eq-eqb _ 0 z))

-- an instruction that overlaps an earlier one: the first
module _ (held : List ℕ) (i : ℕ) (e : overlaps_earlier held i ≡ true) where
  below : first_overlapped held i < i
  unfolding overlaps_earlier
  below = split (ltb (first_overlapped held i) i)
      (λ t. ltb-true _ _ t)
      (λ t. let l : i ≤ first_overlapped held i = ltb-false _ _ t in clash e
      (none_is i (overlaps_that held i) (λ m h. least_below i (overlaps_that held i) m (omega (arith, least_le i (overlaps_that held i))))))

  first_overlap : FirstOverlap held i (first_overlapped held i) (shared_parts held i (first_overlapped held i))
  first_overlap =
      let j = first_overlapped held i in
      let L = found_least i (overlaps_that held i) below in
      let W = two_said held i j L.passes in
      record {
        one = W.one;
        other = W.other;
        says = W.says;
        other_says = W.other_says;
        earlier = below;
        overlapping = sym (by_rules held i j W.one W.other W.says W.other_says) ∙ L.passes;
        first = λ m between h q. sym (by_rules held i m W.one between W.says q) ∙ L.none m h;
        both = in_both held i j W.one W.other W.says W.other_says;
        some = some_shared held i j L.passes;
      }

-- the grounds of an overlap
overlap_grounds : (k : ℕ) (s : Station) (x : PlanSet) → answer_number s (request_of_set x) ≡ 8
    → ((set_refused k s x).place ≡ fault_index s (request_of_set x))
    × ((set_refused k s x).earlier ≡ first_overlapped (set_of x.bytes) (fault_index s (request_of_set x)))
    × ((set_refused k s x).parts ≡ shared_parts (set_of x.bytes) (fault_index s (request_of_set x)) (first_overlapped (set_of x.bytes) (fault_index s (request_of_set x))))
unfolding refused_set
overlap_grounds k s x e = (refl, rw (eq-eqb _ 8 e), rw (eq-eqb _ 8 e))

pub overlap_named : OverlapNamed
overlap_named s k R =
    let t = met_by (plan_in s) k in
    let x = set_of_plan (plan_in s) k in
    let G = overlap_grounds k t x R.told in
    let L = (places_right t x.count (set_of x.bytes)).2 R.told in
    subst (λ (g : Grounds). FirstOverlap (set_of x.bytes) g.place g.earlier g.parts) (sym (there s R))
    (named G.0 G.1 G.2 (first_overlap (set_of x.bytes) (fault_index t (request_of_set x)) L.passes))
  where
    named : {held : List ℕ} {i j p i' j' p' : ℕ} → i' ≡ i → j' ≡ j → p' ≡ p → FirstOverlap held i j p → FirstOverlap held i' j' p'
    named a b c F = rw (a, b, c) F

-- ---- the lift out of turn, and the others

lift_grounds : (k : ℕ) (s : Station) (x : PlanSet) → answer_number s (request_of_set x) ≡ 31 → ((set_refused k s x).parts ≡ 2 ^ 52) × ((set_refused k s x).bits ≡ s.bits)
unfolding refused_set
lift_grounds k s x e = (rw (ne_eqb (answer_number s (request_of_set x)) 8 (λ z. omega arith), eq-eqb _ 31 e), refl)

pub lift_named : LiftNamed
lift_named s k R =
    let t = met_by (plan_in s) k in
    let x = set_of_plan (plan_in s) k in
    let G = lift_grounds k t x R.told in
    let L = (lift_refused t x.count (set_of x.bytes)).0 R.told in
    (ap (λ (g : Grounds). g.parts) (there s R) ∙ G.0, rw (ap (λ (g : Grounds). g.bits) (there s R) ∙ G.1) L.1, L.2)

other_grounds : (k : ℕ) (s : Station) (x : PlanSet) → (answer_number s (request_of_set x) ≡ 8 → ⊥)
    → ((set_refused k s x).earlier ≡ nowhere) × ((answer_number s (request_of_set x) ≡ 31 → ⊥) → (set_refused k s x).parts ≡ 0)
unfolding refused_set
other_grounds k s x n = (rw (ne_eqb (answer_number s (request_of_set x)) 8 n), λ m. rw (ne_eqb (answer_number s (request_of_set x)) 8 n, ne_eqb (answer_number s (request_of_set x)) 31 m))

pub none_else : NoneElse
none_else s number k n R =
    let t = met_by (plan_in s) k in
    let x = set_of_plan (plan_in s) k in
    let G = other_grounds k t x (λ z. n (sym R.told ∙ z)) in
    (ap (λ (g : Grounds). g.earlier) (there s R) ∙ G.0, λ m. ap (λ (g : Grounds). g.parts) (there s R) ∙ G.1 (λ z. m (sym R.told ∙ z)))

-- ---- a whole plan

pub last_told : LastTold
last_told s F = of_followed s F

-- a plan whose sets are not tried is told as 1, 4, 15 or 35
abbrev Untried : ℕ → Type 0
Untried n = (n ≡ 1) ⊎ ((n ≡ 4) ⊎ ((n ≡ 15) ⊎ (n ≡ 35)))

no_end : (n : ℕ) → Untried n → (n ≡ 0 → ⊥) × (n ≡ 36 → ⊥)
no_end n (inl a) = (λ z. omega arith, λ z. omega arith)
no_end n (inr (inl a)) = (λ z. omega arith, λ z. omega arith)
no_end n (inr (inr (inl a))) = (λ z. omega arith, λ z. omega arith)
no_end n (inr (inr (inr a))) = (λ z. omega arith, λ z. omega arith)

untried : (s : List ℕ) (n : ℕ) → Untried n → (c : Case s) → judged_by (value s c) ≡ plainly n → value s c ≡ wholly n 0
untried s n u (cut h) e = ap (λ (j : Judged). wholly j.number 0) e
untried s n u (wrong h w) e = ap (λ (j : Judged). wholly j.number 0) e
untried s n u (refused P x) e = ap (λ (j : Judged). wholly j.number 0) e
untried s n u (many P x l) e = ap (λ (j : Judged). wholly j.number 0) e
untried s n u (stops B i S) e =
    let z : i ≡ 255 = ap (λ (j : Judged). j.set) (sym (stop_judged s i) ∙ e) in
    absurd (omega (arith, S.within, B.few))
untried s n u (misses F m) e = absurd ((no_end n u).1 (sym (ap (λ (j : Judged). j.number) e)))
untried s n u (follows F m) e = absurd ((no_end n u).0 (sym (ap (λ (j : Judged). j.number) e)))

pub none_tried : NoneTried
none_tried s n u e = value_is s (case_of s) ∙ untried s n u (case_of s) (sym (judged_is s (case_of s)) ∙ e)
