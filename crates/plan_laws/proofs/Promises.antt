-- The promises of plans: the grounds of a judgement are one of seven cases, each with its number. Assumes nothing.
use mathlib.Core.Path.{◌≡◌, refl, sym, ap, subst, ◌∙◌}
use mathlib.Core.Logic.{◌⊎◌, inl, inr}
use mathlib.Core.Bool.{true, false, cond, ◌&&◌}
use mathlib.Core.List.{List}
use Prim.Native.Nat.{ℕ, ◌+◌, ◌≤◌, ◌<◌}
use native.Mathlib.Omega.{arith}
use lib.Dec.{eqb, ltb}
use borrow.Author.Tests.{ltb-true, ltb-false}
use lib.ListN.{length, take}
use lib.Seq.{length-take-le}
use Rattle.bits.proofs.Cases.{split, clash}
use Rattle.floor.specs.Sound.{sound}
use Rattle.codec.specs.Bytes.{Bytes}
use Rattle.answers.specs.Answers.{number_of}
use Rattle.wire.specs.Kinds.{set_of}
use Rattle.codec.proofs.Numbers.{bytes_take}
use Rattle.station.specs.declared.Outcome.{Outcome}
use Rattle.station.specs.Station.{start_of, fit}
use Rattle.station.specs.Calls as station
use Rattle.station_laws.specs.Runs.{answer_number}
use Rattle.station_laws.proofs.Calls.{either}
use Rattle.station_laws.proofs.Fits.{fit_start}
use Rattle.plan.specs.declared.Judged.{Judged}
use Rattle.plan.specs.declared.Grounds.{Grounds}
use Rattle.plan.specs.Plans.{Plan, plan_size, plan_in, plainly, wholly, refused_set, most_sets, tried, imaged_at, weighed, grounds_of, judged_by, judgement}
use Rattle.plan.proofs.Cases.{image_refused, too_many, as_tried, cut_short_lem, bad_wish, left_over, as_weighed}
use Rattle.plan_laws.specs.Trials.{plan_image, EachTaken, started, met_by, set_of_plan, last_record, meets, IsPlan}
use Rattle.plan_laws.specs.Promises.{PlanBegun, PlanFollowed, RefusedAt, OfPlan, OfSet, accepted, cut_short, not_aPlan, unsound, too_many_sets, wish_not_met, PlanExactly, FirstRefused, PlanOrder, PlanNumbers, PlanAnyOrder, PlanReadsBack, PlanOneForm, PlanLongest}
use Rattle.plan_laws.proofs.Trying.{image_is, fit_all, fit_started, all_tried, Stops, told_at, grounds_at, stop_tried, either_way, taken_at}
use Rattle.plan_laws.proofs.Orders.{Met, alike, met_after}
use Rattle.plan_laws.proofs.Numbers.{request_numbers, started_met}
use Rattle.plan_laws.proofs.Bytes as bytes

-- ---- the image is taken, or told as not sound

record Either (o : Outcome) : Type 0 where
  one : (number_of o.answer ≡ 0) ⊎ (number_of o.answer ≡ 15)

image_says : (p : Plan) → Either (station.take_image start_of (record { bits = p.bits; apart = p.apart }))
unfolding station.take_image station.imaged
image_says p =
    either Either (fit start_of) (λ a.
    either Either (sound p.bits && eqb p.apart 0) (λ t. record { one = inl refl }) (λ t. record { one = inr refl }))
    (λ a. clash fit_start a)

-- ---- the seven cases

pub data Case (s : List ℕ) : Type 0 where
  cut : length s < plan_size (plan_in s) → Case s
  wrong : plan_size (plan_in s) ≤ length s → (1 < (plan_in s).wish) ⊎ (plan_size (plan_in s) < length s) → Case s
  refused : IsPlan s → answer_number start_of (plan_image (plan_in s)) ≡ 15 → Case s
  many : IsPlan s → answer_number start_of (plan_image (plan_in s)) ≡ 0 → most_sets < length (plan_in s).sets → Case s
  stops : PlanBegun s → (i : ℕ) → Stops (started (plan_in s)) (plan_in s).sets i → Case s
  misses : PlanFollowed s → meets (plan_in s) ≡ false → Case s
  follows : PlanFollowed s → meets (plan_in s) ≡ true → Case s

module _ (s : List ℕ) where
  abbrev p : Plan
  p = plan_in s

  -- the grounds of each
  abbrev pub value : Case s → Grounds
  value (cut h) = wholly 1 0
  value (wrong h w) = wholly 4 0
  value (refused P e) = wholly 15 0
  value (many P e l) = wholly 35 0
  value (stops B i S) = grounds_at (started p) p.sets i i
  value (misses F m) = wholly 36 (last_record p)
  value (follows F m) = wholly 0 (last_record p)

  -- there is no other
  pub case_of : Case s
  case_of = split (ltb (length s) (plan_size p))
      (λ t. cut (ltb-true _ _ t))
      (λ t. let l : plan_size p ≤ length s = ltb-false _ _ t in split (ltb 1 p.wish)
      (λ u. wrong l (inl (ltb-true _ _ u)))
      (λ u. split (ltb (plan_size p) (length s))
      (λ v. wrong l (inr (ltb-true _ _ v)))
      (λ v. let m : length s ≤ plan_size p = ltb-false _ _ v in of_plan (record { whole = omega arith; wish = ltb-false _ _ u }))))
    where
      of_begun : PlanBegun s → Case s
      of_begun B = go (either_way p.sets (started p))
        where
          go : EachTaken (started p) p.sets ⊎ ((i : ℕ) × Stops (started p) p.sets i) → Case s
          go (inl E) = split (meets p) (λ m. follows (record { begun = B; taken = E }) m) (λ m. misses (record { begun = B; taken = E }) m)
          go (inr (i, S)) = stops B i S

      of_plan : IsPlan s → Case s
      of_plan P = go (image_says p).one
        where
          go : (answer_number start_of (plan_image p) ≡ 0) ⊎ (answer_number start_of (plan_image p) ≡ 15) → Case s
          go (inl e) = split (ltb most_sets (length p.sets))
              (λ t. many P e (ltb-true _ _ t))
              (λ t. of_begun (record { form = P; image = e; few = ltb-false _ _ t }))
          go (inr e) = refused P e

  -- ---- the grounds of each

  of_plan : IsPlan s → grounds_of s ≡ weighed p
  of_plan P = sym (as_weighed s _ refl P.wish (sym P.whole))

  image_number : answer_number start_of (plan_image p) ≡ number_of (imaged_at p).answer
  image_number = sym (ap (λ (o : Outcome). number_of o.answer) (image_is p))

  of_begun : PlanBegun s → grounds_of s ≡ tried p.wish 0 (started p) p.sets
  of_begun B =
      of_plan B.form ∙ sym (as_tried p _ image_number B.image B.few)
      ∙ ap (λ (o : Outcome). tried p.wish 0 o.station p.sets) (image_is p)

  pub of_followed : PlanFollowed s → grounds_of s ≡ wholly (cond (meets p) 0 36) (last_record p)
  of_followed F = of_begun F.begun ∙ all_tried p.sets p.wish 0 (started p) (fit_started p) F.taken

  of_wrong : plan_size p ≤ length s → (1 < p.wish) ⊎ (plan_size p < length s) → grounds_of s ≡ wholly 4 0
  of_wrong h (inl w) = sym (bad_wish s _ refl h w)
  of_wrong h (inr l) = split (ltb 1 p.wish)
      (λ t. sym (bad_wish s _ refl h (ltb-true _ _ t)))
      (λ t. sym (left_over s _ refl (ltb-false _ _ t) l))

  pub value_is : (c : Case s) → grounds_of s ≡ value c
  value_is (cut h) = sym (cut_short_lem s _ refl h)
  value_is (wrong h w) = of_wrong h w
  value_is (refused P e) = of_plan P ∙ sym (image_refused p 15 (sym e ∙ image_number) (λ z. omega arith))
  value_is (many P e l) = of_plan P ∙ sym (too_many p _ image_number e l)
  value_is (stops B i S) = of_begun B ∙ stop_tried p.sets p.wish 0 i (started p) (fit_started p) S ∙ (let z : 0 + i ≡ i = omega arith in rw z)
  value_is (misses F m) = of_followed F ∙ rw m
  value_is (follows F m) = of_followed F ∙ rw m

  -- ---- from the judgement to the case

  pub judged_is : (c : Case s) → judgement s ≡ judged_by (value c)
  unfolding judgement
  judged_is c = ap judged_by (value_is c)

  pub stop_judged : (i : ℕ) → judged_by (grounds_at (started p) p.sets i i) ≡ record { number = told_at (started p) p.sets i; set = i }
  unfolding refused_set
  stop_judged i = refl

  -- no two numbers of a whole plan are one
  unlike : {A : Type 0} (n m : ℕ) → plainly n ≡ plainly m → (n ≡ m → ⊥) → A
  unlike n m e d = absurd (d (ap (λ (j : Judged). j.number) e))

  -- no set has the number 255
  no_stop : {A : Type 0} (B : PlanBegun s) (i m : ℕ) (S : Stops (started p) p.sets i) → judged_by (grounds_at (started p) p.sets i i) ≡ plainly m → A
  no_stop B i m S e = let z : i ≡ 255 = ap (λ (j : Judged). j.set) (sym (stop_judged i) ∙ e) in absurd (omega (arith, S.within, B.few))

  told : {j : Judged} → judgement s ≡ j → judged_by (value case_of) ≡ j
  told e = sym (judged_is case_of) ∙ e

  told_0 : (c : Case s) → judged_by (value c) ≡ plainly 0 → PlanFollowed s × (meets p ≡ true)
  told_0 (cut h) e = unlike 1 0 e (λ z. omega arith)
  told_0 (wrong h w) e = unlike 4 0 e (λ z. omega arith)
  told_0 (refused P x) e = unlike 15 0 e (λ z. omega arith)
  told_0 (many P x l) e = unlike 35 0 e (λ z. omega arith)
  told_0 (stops B i S) e = no_stop B i 0 S e
  told_0 (misses F m) e = unlike 36 0 e (λ z. omega arith)
  told_0 (follows F m) e = (F, m)

  told_1 : (c : Case s) → judged_by (value c) ≡ plainly 1 → length s < plan_size p
  told_1 (cut h) e = h
  told_1 (wrong h w) e = unlike 4 1 e (λ z. omega arith)
  told_1 (refused P x) e = unlike 15 1 e (λ z. omega arith)
  told_1 (many P x l) e = unlike 35 1 e (λ z. omega arith)
  told_1 (stops B i S) e = no_stop B i 1 S e
  told_1 (misses F m) e = unlike 36 1 e (λ z. omega arith)
  told_1 (follows F m) e = unlike 0 1 e (λ z. omega arith)

  told_4 : (c : Case s) → judged_by (value c) ≡ plainly 4 → (plan_size p ≤ length s) × ((1 < p.wish) ⊎ (plan_size p < length s))
  told_4 (cut h) e = unlike 1 4 e (λ z. omega arith)
  told_4 (wrong h w) e = (h, w)
  told_4 (refused P x) e = unlike 15 4 e (λ z. omega arith)
  told_4 (many P x l) e = unlike 35 4 e (λ z. omega arith)
  told_4 (stops B i S) e = no_stop B i 4 S e
  told_4 (misses F m) e = unlike 36 4 e (λ z. omega arith)
  told_4 (follows F m) e = unlike 0 4 e (λ z. omega arith)

  told_15 : (c : Case s) → judged_by (value c) ≡ plainly 15 → IsPlan s × (answer_number start_of (plan_image p) ≡ 15)
  told_15 (cut h) e = unlike 1 15 e (λ z. omega arith)
  told_15 (wrong h w) e = unlike 4 15 e (λ z. omega arith)
  told_15 (refused P x) e = (P, x)
  told_15 (many P x l) e = unlike 35 15 e (λ z. omega arith)
  told_15 (stops B i S) e = no_stop B i 15 S e
  told_15 (misses F m) e = unlike 36 15 e (λ z. omega arith)
  told_15 (follows F m) e = unlike 0 15 e (λ z. omega arith)

  told_35 : (c : Case s) → judged_by (value c) ≡ plainly 35 → IsPlan s × (answer_number start_of (plan_image p) ≡ 0) × (most_sets < length p.sets)
  told_35 (cut h) e = unlike 1 35 e (λ z. omega arith)
  told_35 (wrong h w) e = unlike 4 35 e (λ z. omega arith)
  told_35 (refused P x) e = unlike 15 35 e (λ z. omega arith)
  told_35 (many P x l) e = (P, x, l)
  told_35 (stops B i S) e = no_stop B i 35 S e
  told_35 (misses F m) e = unlike 36 35 e (λ z. omega arith)
  told_35 (follows F m) e = unlike 0 35 e (λ z. omega arith)

  told_36 : (c : Case s) → judged_by (value c) ≡ plainly 36 → PlanFollowed s × (meets p ≡ false)
  told_36 (cut h) e = unlike 1 36 e (λ z. omega arith)
  told_36 (wrong h w) e = unlike 4 36 e (λ z. omega arith)
  told_36 (refused P x) e = unlike 15 36 e (λ z. omega arith)
  told_36 (many P x l) e = unlike 35 36 e (λ z. omega arith)
  told_36 (stops B i S) e = no_stop B i 36 S e
  told_36 (misses F m) e = (F, m)
  told_36 (follows F m) e = unlike 0 36 e (λ z. omega arith)

  -- the case of a set that is refused
  abbrev pub stop_case : {number k : ℕ} → RefusedAt s number k → Case s
  stop_case {number} {k} R = stops R.begun k (record { within = R.within; before = R.before; other = λ q. R.other (sym R.told ∙ q) })

  -- a set and its number
  module _ (number k : ℕ) (h : k < 255) where
    whole : {A : Type 0} (n : ℕ) → plainly n ≡ record { number = number; set = k } → A
    whole n e = let z : 255 ≡ k = ap (λ (j : Judged). j.set) e in absurd (omega arith)

    told_set : (c : Case s) → judged_by (value c) ≡ record { number = number; set = k } → RefusedAt s number k
    told_set (cut x) e = whole 1 e
    told_set (wrong x w) e = whole 4 e
    told_set (refused P x) e = whole 15 e
    told_set (many P x l) e = whole 35 e
    told_set (stops B i S) q =
        let e = sym (stop_judged i) ∙ q in
        let n : told_at (started p) p.sets i ≡ number = ap (λ (j : Judged). j.number) e in
        let z : i ≡ k = ap (λ (j : Judged). j.set) e in
        let T : Stops (started p) p.sets k = subst (Stops (started p) p.sets) z S in
        let m : told_at (started p) p.sets k ≡ number = sym (ap (told_at (started p) p.sets) z) ∙ n in
        record { begun = B; within = T.within; before = T.before; told = m; other = λ q. T.other (m ∙ q) }
    told_set (misses F m) e = whole 36 e
    told_set (follows F m) e = whole 0 e

    set_told : RefusedAt s number k → judgement s ≡ record { number = number; set = k }
    set_told R =
        judged_is (stop_case R) ∙ stop_judged k ∙ ap (λ (n : ℕ). record { number = n; set = k }) R.told

pub plan_exactly : PlanExactly
plan_exactly s = (λ e. told_0 s (case_of s) (told s e), λ x. judged_is s (follows x.0 x.1))

pub first_refused : FirstRefused
first_refused s number k h = (λ e. told_set s number k h (case_of s) (told s e), set_told s number k h)

pub plan_order : PlanOrder
plan_order s = (
  (λ e. told_1 s (case_of s) (told s e), λ h. judged_is s (cut h)),
  (λ e. told_4 s (case_of s) (told s e), λ x. judged_is s (wrong x.0 x.1)),
  (λ e. told_15 s (case_of s) (told s e), λ x. judged_is s (refused x.0 x.1)),
  (λ e. told_35 s (case_of s) (told s e), λ x. judged_is s (many x.0 x.1 x.2)),
  (λ e. told_36 s (case_of s) (told s e), λ x. judged_is s (misses x.0 x.1)),
)

-- ---- which numbers

-- a number of a whole plan, or of a set
abbrev Numbered : Judged → Type 0
Numbered j = (OfPlan j.number × (j.set ≡ 255)) ⊎ (OfSet j.number × (j.set < most_sets))

-- the station that set i meets
met_by_lem : (s : List ℕ) → Bytes s → (B : PlanBegun s) (i : ℕ) → EachTaken (started (plan_in s)) (take i (plan_in s).sets) → Met (met_by (plan_in s) i)
met_by_lem s b B i e = met_after (take i (plan_in s).sets) (started (plan_in s)) (started_met s b B.image) e

numbers : (s : List ℕ) → Bytes s → (c : Case s) → Numbered (judged_by (value s c))
numbers s b (cut h) = inl (cut_short, refl)
numbers s b (wrong h w) = inl (not_aPlan, refl)
numbers s b (refused P e) = inl (unsound, refl)
numbers s b (many P e l) = inl (too_many_sets, refl)
numbers s b (stops B i S) =
    let t = met_by (plan_in s) i in
    let x = set_of_plan (plan_in s) i in
    let M = met_by_lem s b B i S.before in
    go (request_numbers t (fit_all (take i (plan_in s).sets) (started (plan_in s)) (fit_started (plan_in s))) M.idle M.whole x.count (set_of x.bytes)).one
  where
    go : (told_at (started (plan_in s)) (plan_in s).sets i ≡ 0) ⊎ OfSet (told_at (started (plan_in s)) (plan_in s).sets i)
        → Numbered (judged_by (grounds_at (started (plan_in s)) (plan_in s).sets i i))
    go (inl z) = absurd (S.other z)
    go (inr o) = subst Numbered (sym (stop_judged s i)) (inr (o, omega (arith, S.within, B.few)))
numbers s b (misses F m) = inl (wish_not_met, refl)
numbers s b (follows F m) = inl (accepted, refl)

pub plan_numbers : PlanNumbers
plan_numbers s b = subst Numbered (sym (judged_is s (case_of s))) (numbers s b (case_of s))

-- ---- any order

pub plan_any_order : PlanAnyOrder
plan_any_order s b e k h l O =
    let (F, m) = told_0 s (case_of s) (told s e) in
    let (before, here) = taken_at (plan_in s).sets (started (plan_in s)) k h F.taken in
    let A = alike (met_by (plan_in s) k) (met_by_lem s b F.begun k before) (set_of_plan (plan_in s) k) here l O in
    (A.fair.0, A.same)

-- ---- bytes

pub plan_reads_back : PlanReadsBack
plan_reads_back = bytes.plan_reads_back

pub plan_one_form : PlanOneForm
plan_one_form = bytes.plan_one_form

-- longer than any plan
too_long : (s : List ℕ) → Bytes s → 325398 < length s → judgement s ≡ plainly 4
too_long s b h = judged_is s (wrong (omega (arith, bytes.plan_long s b)) (inr (omega (arith, bytes.plan_long s b))))

pub plan_longest : PlanLongest
plan_longest s b h = (too_long s b h, too_long (take 325399 s) (bytes_take 325399 s b) (omega (arith, length-take-le 325399 s (omega arith))))
