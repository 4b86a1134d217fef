-- What is judged past the test of fitness is what the calls of the station do: every station that a plan meets is fit. And how the sets of a
-- plan can end: all are taken in their turn, or one is the first refused. Assumes nothing.
use mathlib.Core.Path.{◌≡◌, refl, sym, ap, ◌∙◌}
use mathlib.Core.Logic.{◌⊎◌, inl, inr}
use mathlib.Core.Bool.{true, cond}
use mathlib.Core.List.{List, [], ◌∷◌, ◌++◌}
use Prim.Native.Nat.{ℕ, zero, suc, ◌+◌, ◌%◌, ◌<◌}
use native.Mathlib.Omega.{arith}
use lib.Dec.{eqb}
use borrow.Author.Tests.{eqb-true, eqb-false, ne_eqb}
use lib.ListN.{length, get_or, take}
use Rattle.bits.specs.Bits.{bit}
use Rattle.bits.proofs.Cases.{split}
use Rattle.floor.specs.Tests.{holds}
use Rattle.answers.specs.Answers.{number_of}
use Rattle.station.specs.declared.Station.{Station}
use Rattle.station.specs.declared.Outcome.{Outcome}
use Rattle.station.specs.declared.Report.{Report}
use Rattle.station.specs.Station.{start_of, present_issue, fit}
use Rattle.station.specs.Calls as station
use Rattle.station_laws.specs.Runs.{Call, call, answer_number, station_after, calls}
use Rattle.station_laws.proofs.Fits.{fit_start}
use Rattle.station_laws.proofs.Always.{fit_kept, fit_always}
use Rattle.station_laws.proofs.Issues.{in_turn}
use Rattle.wire.specs.Kinds.{set_of}
use Rattle.plan.specs.declared.Grounds.{Grounds}
use Rattle.plan.specs.Plans.{PlanSet, Plan, wholly, refused_set, wished, set_asked, after_success, succeeded, tried, imaged_at}
use Rattle.plan_laws.specs.Trials.{plan_image, request_of_set, success, successes, set_opened, after_set, after_sets, EachTaken, set_refused, started}

-- ---- past the test of fitness

asked_is : (s : Station) (x : PlanSet) → fit s ≡ true → set_asked s x ≡ call s (request_of_set x)
unfolding station.request
asked_is s x f = rw f

resulted_is : (s : Station) (r : Report) → fit s ≡ true → station.resulted s r ≡ station.result s r
unfolding station.result
resulted_is s r f = rw f

done_is : (s : Station) (i : ℕ) → fit s ≡ true → after_success s i ≡ station_after s (success (present_issue s) i)
done_is s i f = ap (λ (o : Outcome). o.station) (resulted_is s _ f)

pub image_is : (p : Plan) → imaged_at p ≡ call start_of (plan_image p)
unfolding station.take_image
image_is p = rw fit_start

-- ---- the successes of a set

pub calls_snoc : (l : List Call) (s : Station) (c : Call) → calls s (l ++ (c ∷ [])) ≡ station_after (calls s l) c
calls_snoc [] s c = refl
calls_snoc (d ∷ l) s c = calls_snoc l (station_after s d) c

-- they keep the present issue
kept_present : (s : Station) (k n : ℕ) → present_issue (calls s (successes k n)) ≡ present_issue s
kept_present s k zero = refl
kept_present s k (suc n) =
    let t = calls s (successes k n) in
    ap present_issue (calls_snoc (successes k n) s (success k n))
    ∙ ap (λ (m : ℕ). (m + 65535) % 65536) (in_turn t (success k n)).1
    ∙ kept_present s k n

succeeded_is : (n : ℕ) (s : Station) → fit s ≡ true → succeeded n s ≡ calls s (successes (present_issue s) n)
unfolding succeeded
succeeded_is zero s f = refl
succeeded_is (suc n) s f =
    let k = present_issue s in
    let t = calls s (successes k n) in
    ap (λ (u : Station). after_success u n) (succeeded_is n s f)
    ∙ done_is t n (fit_always (successes k n) s f)
    ∙ ap (λ (m : ℕ). station_after t (success m n)) (kept_present s k n)
    ∙ sym (calls_snoc (successes k n) s (success k n))

-- the station after a set, as it is judged
pub after_is : (s : Station) (x : PlanSet) → fit s ≡ true → succeeded x.count (set_asked s x).station ≡ after_set s x
after_is s x f =
    ap (λ (o : Outcome). succeeded x.count o.station) (asked_is s x f)
    ∙ succeeded_is x.count (set_opened s x) (fit_kept s (request_of_set x) f)

pub fit_after : (s : Station) (x : PlanSet) → fit s ≡ true → fit (after_set s x) ≡ true
fit_after s x f = fit_always (successes (present_issue (set_opened s x)) x.count) (set_opened s x) (fit_kept s (request_of_set x) f)

pub fit_all : (xs : List PlanSet) (s : Station) → fit s ≡ true → fit (after_sets s xs) ≡ true
fit_all [] s f = f
fit_all (x ∷ xs) s f = fit_all xs (after_set s x) (fit_after s x f)

pub fit_started : (p : Plan) → fit (started p) ≡ true
fit_started p = fit_kept start_of (plan_image p) fit_start

-- ---- one set

module _ (wish k : ℕ) (s : Station) (f : fit s ≡ true) (x : PlanSet) (xs : List PlanSet) where
  number_is : number_of (set_asked s x).answer ≡ answer_number s (request_of_set x)
  number_is = ap (λ (o : Outcome). number_of o.answer) (asked_is s x f)

  tried_taken : answer_number s (request_of_set x) ≡ 0 → tried wish k s (x ∷ xs) ≡ tried wish (suc k) (after_set s x) xs
  unfolding tried
  tried_taken e = rw (number_is ∙ e) (ap (λ (t : Station). tried wish (suc k) t xs) (after_is s x f))

  tried_refused : (answer_number s (request_of_set x) ≡ 0 → ⊥) → tried wish k s (x ∷ xs) ≡ set_refused k s x
  unfolding tried
  tried_refused e =
      rw (number_is, ne_eqb (answer_number s (request_of_set x)) 0 e)
      (ap (λ (o : Outcome). refused_set k s.bits (set_of x.bytes) o.answer) (asked_is s x f))

-- ---- all sets

-- the wish, where all are taken
pub all_tried : (xs : List PlanSet) (wish k : ℕ) (s : Station) → fit s ≡ true → EachTaken s xs
    → tried wish k s xs ≡ wholly (cond (holds (wished wish) (bit (after_sets s xs).bits)) 0 36) (after_sets s xs).bits
unfolding tried
all_tried [] wish k s f e = refl
all_tried (x ∷ xs) wish k s f e = tried_taken wish k s f x xs e.0 ∙ all_tried xs wish (suc k) (after_set s x) (fit_after s x f) e.1

-- set i is the first refused
pub record Stops (s : Station) (xs : List PlanSet) (i : ℕ) : Type 0 where
  pub within : i < length xs
  pub before : EachTaken s (take i xs)
  pub other : answer_number (after_sets s (take i xs)) (request_of_set (get_or xs i (record { count = 0; bytes = [] }))) ≡ 0 → ⊥

-- what it is told
abbrev pub told_at : Station → List PlanSet → ℕ → ℕ
told_at s xs i = answer_number (after_sets s (take i xs)) (request_of_set (get_or xs i (record { count = 0; bytes = [] })))

-- and on what grounds
abbrev pub grounds_at : Station → List PlanSet → ℕ → ℕ → Grounds
grounds_at s xs i k = set_refused k (after_sets s (take i xs)) (get_or xs i (record { count = 0; bytes = [] }))

pub stop_tried : (xs : List PlanSet) (wish k i : ℕ) (s : Station) → fit s ≡ true → Stops s xs i
    → tried wish k s xs ≡ grounds_at s xs i (k + i)
stop_tried [] wish k i s f S = absurd (let l = S.within in omega arith)
stop_tried (x ∷ xs) wish k zero s f S =
    let z : k + 0 ≡ k = omega arith in
    rw z (tried_refused wish k s f x xs S.other)
stop_tried (x ∷ xs) wish k (suc i) s f S =
    let z : k + suc i ≡ suc k + i = omega arith in
    tried_taken wish k s f x xs S.before.0
    ∙ rw z (stop_tried xs wish (suc k) i (after_set s x) (fit_after s x f) (record { within = (let l = S.within in omega arith); before = S.before.1; other = S.other }))

-- one or the other
pub either_way : (xs : List PlanSet) (s : Station) → EachTaken s xs ⊎ ((i : ℕ) × Stops s xs i)
either_way [] s = inl tt
either_way (x ∷ xs) s = split (eqb (answer_number s (request_of_set x)) 0)
    (λ t. more (eqb-true _ 0 t) (either_way xs (after_set s x)))
    (λ t. inr (0, record { within = omega arith; before = tt; other = eqb-false _ 0 t }))
  where
    more : answer_number s (request_of_set x) ≡ 0 → EachTaken (after_set s x) xs ⊎ ((i : ℕ) × Stops (after_set s x) xs i) → EachTaken s (x ∷ xs) ⊎ ((i : ℕ) × Stops s (x ∷ xs) i)
    more e (inl r) = inl (e, r)
    more e (inr (i, S)) = inr (suc i, record { within = (let l = S.within in omega arith); before = (e, S.before); other = S.other })

-- of sets that are all taken, those before one, and that one
pub taken_at : (xs : List PlanSet) (s : Station) (i : ℕ) → i < length xs → EachTaken s xs → EachTaken s (take i xs) × (told_at s xs i ≡ 0)
taken_at [] s i h e = absurd (omega arith)
taken_at (x ∷ xs) s zero h e = (tt, e.0)
taken_at (x ∷ xs) s (suc i) h e = let r = taken_at xs (after_set s x) i (omega arith) e.1 in ((e.0, r.0), r.1)
