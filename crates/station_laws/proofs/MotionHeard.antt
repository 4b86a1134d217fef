-- The results of the instructions that wait, as it happened: each is accepted, and at the end the record is the one with those applied that
-- have finished, in the order of their results. Assumes nothing.
use mathlib.Core.Path.{◌≡◌, refl, sym, ap, subst, ◌∙◌}
use mathlib.Core.Bool.{Bool, true, false, cond, ◌&&◌, ◌||◌, or-true, and-true, and-false}
use mathlib.Core.List.{List, [], ◌∷◌, map}
use Prim.Native.Nat.{ℕ}
use lib.Dec.{eqb}
use borrow.Author.Tests.{eqb-true, eq-eqb}
use Rattle.bits.specs.Bits.{bit, image}
use Rattle.bits.specs.Search.{every}
use Rattle.bits.proofs.Cases.{split, clash, off}
use Rattle.bits.proofs.Search.{every_at}
use Rattle.rules.specs.declared.Code.{Code}
use Rattle.any_order.proofs.Marks.{marks}
use Rattle.answers.specs.Answers.{number_of}
use Rattle.station.specs.declared.Station.{Station}
use Rattle.station.specs.Held.{held_next}
use Rattle.station.specs.Station.{present_issue, fit, marked, answering}
use Rattle.station.specs.Calls.{taken}
use Rattle.station_laws.specs.Runs as run
use Rattle.station_laws.specs.Runs.{call, station_after, calls}
use Rattle.station_laws.specs.Orders.{Fair}
use Rattle.station_laws.specs.Jams.{jam_at, has, Picks, applied}
use Rattle.station_laws.specs.AnswersRight.{Waiting}
use Rattle.station_laws.specs.Motion.{Moving, of_set, of_stuck, set_numbers, stuck_numbers, is_among, moved_on, as_it_happened}
use Rattle.station_laws.proofs.Fits.{marks_with, after_result, waits_allowed}
use Rattle.station_laws.proofs.Calls.{following, success_is, failure_is, answering_bits}
use Rattle.station_laws.proofs.Always.{fit_kept}
use Rattle.station_laws.proofs.MotionFloor.{Once}

has_first : (i : ℕ) (q : List ℕ) → has (i ∷ q) i ≡ true
has_first i q = rw (eq-eqb i i refl)

-- of these instructions of the set none has its result, and none is there twice
pub record Owing (t : Station) (q : List ℕ) : Type 0 where
  pub once : Picks t.count q
  pub waiting : (i : ℕ) → has q i ≡ true → marked t i ≡ false

-- of the instructions of a list those that have finished, and then these stuck ones
abbrev pub done : List Moving → List ℕ → List ℕ → List Moving
done p x [] = map of_stuck x
done p x (i ∷ q) = let rest = done p x q in cond (is_among p (of_set i)) (of_set i ∷ rest) rest

-- stuck ones alone are applied as such
pub moved_stuck : (set : List ℕ) (js : List Code) (x : List ℕ) (r : ℕ) → moved_on set js (map of_stuck x) r ≡ applied js x r
moved_stuck set js [] r = refl
moved_stuck set js (j ∷ x) r = moved_stuck set js x (image (held_next (jam_at js j) (bit r)))

-- ---- one result

-- what the others find after a result on the station t: they wait, under the same issue, and are the same instructions
record Ahead (t u : Station) (q : List ℕ) : Type 0 where
  owing : Owing u q
  issue : present_issue u ≡ present_issue t
  bytes : (js : List Code) (p : List Moving) (x : List ℕ) (r : ℕ) → moved_on u.set js (done p x q) r ≡ moved_on t.set js (done p x q) r

module _ (t : Station) (f : fit t ≡ true) (k : ℕ) (e : k ≡ present_issue t) (i : ℕ) (q : List ℕ) (w : Owing t (i ∷ q)) where
  waits : Waiting t i
  waits = (f, w.once.0, w.waiting i (has_first i q))

  -- the record after it, where it has finished or not
  abbrev record_then : Bool → ℕ
  record_then x = cond x (following t i) t.bits

  abbrev now : Bool → Station
  now x = answering t i (record_then x) t.apart

  result_is : (x : Bool) → call t (run.result_call k i (cond x 1 0)) ≡ taken (now x)
  result_is true = success_is t k i e waits
  result_is false = failure_is t k i e waits

  now_is : (x : Bool) → station_after t (run.result_call k i (cond x 1 0)) ≡ now x
  now_is x = ap (λ o. o.station) (result_is x)

  now_fit : (x : Bool) → fit (now x) ≡ true
  now_fit x = subst (λ (u : Station). fit u ≡ true) (now_is x) (fit_kept t (run.result_call k i (cond x 1 0)) f)

  -- another that waits is not marked by it
  still_open : (j : ℕ) → has q j ≡ true → bit (marks_with t i) j ≡ false
  still_open j h =
      let other : eqb i j ≡ false = off _ (λ u. clash h (rw (← eqb-true i j u) w.once.1)) in
      let old : marked t j ≡ false = w.waiting j (rw h (or-true (eqb i j))) in
      ap (λ (g : ℕ → Bool). g j) (marks t.answered i) ∙ rw (other, old)

  -- where each has its result, no other waits
  none_left : (rest : List ℕ) → Picks t.count rest → ((j : ℕ) → has rest j ≡ true → bit (marks_with t i) j ≡ false)
      → every t.count (bit (marks_with t i)) ≡ true → rest ≡ []
  none_left [] h o a = refl
  none_left (j ∷ rest) h o a = clash (every_at t.count _ a j h.0) (o j (has_first j rest))

  ahead : (x : Bool) → Ahead t (now x) q
  ahead x = after_result (λ u. Ahead t u q) t i (record_then x) t.apart
      (λ a. subst (Ahead t _) (sym (none_left q w.once.2 still_open a)) (record {
        owing = record { once = tt; waiting = λ j h. clash h refl };
        issue = refl;
        bytes = λ js p y r. moved_stuck _ js y r ∙ sym (moved_stuck t.set js y r);
      }))
      (λ a. record { owing = record { once = w.once.2; waiting = still_open }; issue = refl; bytes = λ js p y r. refl })

-- ---- all of them

module _ (js : List Code) (k : ℕ) (p : List Moving) (x : List ℕ) where
  pub record Arrived (t : Station) (q : List ℕ) : Type 0 where
    pub fair : Fair t (as_it_happened k p q)
    pub ends : applied js x (calls t (as_it_happened k p q)).bits ≡ moved_on t.set js (done p x q) t.bits

  -- the first of them is applied before the others
  first_done : (t : Station) (i : ℕ) (b : Bool) (rest : List Moving)
      → moved_on t.set js (cond b (of_set i ∷ rest) rest) t.bits ≡ moved_on t.set js rest (cond b (following t i) t.bits)
  first_done t i true rest = refl
  first_done t i false rest = refl

  pub results_arrive : (q : List ℕ) (t : Station) → fit t ≡ true → k ≡ present_issue t → Owing t q → Arrived t q
  results_arrive [] t f e w = record { fair = tt; ends = sym (moved_stuck t.set js x t.bits) }
  results_arrive (i ∷ q) t f e w =
      let b = is_among p (of_set i) in
      let u = now t f k e i q w b in
      let A = ahead t f k e i q w b in
      let T = results_arrive q u (now_fit t f k e i q w b) (e ∙ sym A.issue) A.owing in
      let there = now_is t f k e i q w b in
      record {
        fair = (
          ap (λ o. number_of o.answer) (result_is t f k e i q w b),
          (λ d. waits_allowed t i (waits t f k e i q w)),
          subst (λ (v : Station). Fair v (as_it_happened k p q)) (sym there) T.fair,
        );
        ends =
            ap (λ (v : Station). applied js x (calls v (as_it_happened k p q)).bits) there
            ∙ T.ends
            ∙ A.bytes js p x u.bits
            ∙ ap (moved_on t.set js (done p x q)) (answering_bits t i (record_then t f k e i q w b) t.apart)
            ∙ sym (first_done t i b (done p x q));
      }

-- ---- another order of the same

pub stuck_set : (x : List ℕ) → set_numbers (map of_stuck x) ≡ []
stuck_set [] = refl
stuck_set (j ∷ x) = stuck_set x

pub stuck_numbers_lem : (x : List ℕ) → stuck_numbers (map of_stuck x) ≡ x
stuck_numbers_lem [] = refl
stuck_numbers_lem (j ∷ x) = ap (λ (y : List ℕ). j ∷ y) (stuck_numbers_lem x)

-- one more of the set, or none
more_stuck : (b : Bool) (i : ℕ) (rest : List Moving) → stuck_numbers (cond b (of_set i ∷ rest) rest) ≡ stuck_numbers rest
more_stuck true i rest = refl
more_stuck false i rest = refl

more_set : (b : Bool) (i : ℕ) (rest : List Moving) (j : ℕ)
    → is_among (cond b (of_set i ∷ rest) rest) (of_set j) ≡ (eqb i j && b) || is_among rest (of_set j)
more_set true i rest j = ap (λ (c : Bool). c || is_among rest (of_set j)) (sym (and-true (eqb i j)))
more_set false i rest j = ap (λ (c : Bool). c || is_among rest (of_set j)) (sym (and-false (eqb i j)))

done_stuck : (p : List Moving) (x q : List ℕ) → stuck_numbers (done p x q) ≡ x
done_stuck p x [] = stuck_numbers_lem x
done_stuck p x (i ∷ q) = more_stuck (is_among p (of_set i)) i (done p x q) ∙ done_stuck p x q

done_set : (p : List Moving) (x q : List ℕ) (j : ℕ) → is_among (done p x q) (of_set j) ≡ has q j && is_among p (of_set j)
done_set p x [] j = ap (λ (y : List ℕ). has y j) (stuck_set x)
done_set p x (i ∷ q) j =
    more_set (is_among p (of_set i)) i (done p x q) j
    ∙ ap (λ (c : Bool). (eqb i j && is_among p (of_set i)) || c) (done_set p x q j)
    ∙ split (eqb i j) (λ u. rw (u, eqb-true i j u) (absorbed (is_among p (of_set j)) (has q j))) (λ u. rw u)
  where
    absorbed : (b c : Bool) → b || (c && b) ≡ b
    absorbed true c = refl
    absorbed false c = and-false c

-- none of them twice
more_once : (b : Bool) (i : ℕ) (rest : List Moving) → is_among rest (of_set i) ≡ false → Once rest → Once (cond b (of_set i ∷ rest) rest)
more_once true i rest e o = (e, o)
more_once false i rest e o = o

stuck_once : (n : ℕ) (x : List ℕ) → Picks n x → Once (map of_stuck x)
stuck_once n [] h = tt
stuck_once n (j ∷ x) h = (ap (λ (y : List ℕ). has y j) (stuck_numbers_lem x) ∙ h.1, stuck_once n x h.2)

pub done_once : (p : List Moving) (n m : ℕ) (x q : List ℕ) → Picks n q → Picks m x → Once (done p x q)
done_once p n m x [] h g = stuck_once m x g
done_once p n m x (i ∷ q) h g = more_once (is_among p (of_set i)) i (done p x q) (done_set p x q i ∙ rw h.1) (done_once p n m x q h.2 g)

-- where all that wait are in the list, they are those of the choice
pub done_same : (p : List Moving) (q : List ℕ) → ((i : ℕ) → is_among p (of_set i) ≡ true → has q i ≡ true)
    → (m : Moving) → is_among (done p (stuck_numbers p) q) m ≡ is_among p m
done_same p q all (of_set i) =
    done_set p (stuck_numbers p) q i
    ∙ split (is_among p (of_set i)) (λ u. rw (u, all i u)) (λ u. rw u (and-false (has q i)))
done_same p q all (of_stuck j) = ap (λ (y : List ℕ). has y j) (done_stuck p (stuck_numbers p) q)
