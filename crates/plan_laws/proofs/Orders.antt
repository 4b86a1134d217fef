-- The results of a set in any order: the order in which a plan is judged is one of them, and every station that a plan meets is reached from
-- the image. Assumes nothing.
use mathlib.Core.Path.{◌≡◌, refl, sym, ap, ◌∙◌}
use mathlib.Core.Logic.{⊎_elim}
use mathlib.Core.Bool.{cond}
use mathlib.Core.List.{List, [], ◌∷◌, ◌++◌}
use Prim.Native.Nat.{ℕ, zero, suc, ◌+◌, ◌≤◌, ◌<◌}
use native.Mathlib.Omega.{arith}
use lib.Dec.{eqb}
use borrow.Author.Tests.{eqb-true, eqb-false, ne_eqb}
use Rattle.bits.proofs.Cases.{split}
use Rattle.wire.specs.Kinds.{set_of}
use Rattle.station.specs.declared.Station.{Station}
use Rattle.station.specs.Station.{present_issue}
use Rattle.station_laws.specs.Runs as run
use Rattle.station_laws.specs.Runs.{Call, answer_number, station_after, calls, NoImages, Reached}
use Rattle.station_laws.specs.Orders.{results_of, events_of, succeeds, AsChosen, Order, Alike}
use Rattle.station_laws.proofs.Calls.{request_has}
use Rattle.station_laws.proofs.Demands.{any_order, only_stuck_sets_apart}
use Rattle.plan.specs.Plans.{PlanSet}
use Rattle.plan_laws.specs.Trials.{request_of_set, success, successes, set_opened, after_set, after_sets, EachTaken}
use Rattle.plan_laws.proofs.Trying.{calls_snoc}

-- ---- the order in which a plan is judged

-- one more result at the end of a list
results_snoc : (i k j : ℕ) (l : List Call) → results_of i (l ++ (success k j ∷ [])) ≡ results_of i l + cond (eqb j i) 1 0
results_snoc i k j [] = let z : cond (eqb j i) 1 0 + 0 ≡ 0 + cond (eqb j i) 1 0 = omega arith in z
results_snoc i k j (run.request n set ∷ l) = results_snoc i k j l
results_snoc i k j (run.reports r ∷ l) = omega (arith, results_snoc i k j l)
results_snoc i k j (run.event e ∷ l) = results_snoc i k j l
results_snoc i k j (run.pictures p ∷ l) = results_snoc i k j l
results_snoc i k j (run.ask ∷ l) = results_snoc i k j l

events_snoc : (k j : ℕ) (l : List Call) → events_of l ≡ [] → events_of (l ++ (success k j ∷ [])) ≡ []
events_snoc k j [] e = refl
events_snoc k j (run.request n set ∷ l) e = events_snoc k j l e
events_snoc k j (run.reports r ∷ l) e = events_snoc k j l e
events_snoc k j (run.event w ∷ l) e = let z : ◌≡◌ {A = ℕ} 0 1 = cc in absurd (omega arith)
events_snoc k j (run.pictures p ∷ l) e = events_snoc k j l e
events_snoc k j (run.ask ∷ l) e = events_snoc k j l e

chosen_snoc : (k j : ℕ) (l : List Call) → AsChosen k (λ i. succeeds) l → AsChosen k (λ i. succeeds) (l ++ (success k j ∷ []))
chosen_snoc k j [] c = (refl, refl, tt)
chosen_snoc k j (run.request n set ∷ l) c = c
chosen_snoc k j (run.reports r ∷ l) c = (c.0, c.1, chosen_snoc k j l c.2)
chosen_snoc k j (run.event w ∷ l) c = chosen_snoc k j l c
chosen_snoc k j (run.pictures p ∷ l) c = c
chosen_snoc k j (run.ask ∷ l) c = c

none_yet : (k n i : ℕ) → n ≤ i → results_of i (successes k n) ≡ 0
none_yet k zero i h = refl
none_yet k (suc n) i h =
    let e = ne_eqb n i (λ z. omega arith) in
    results_snoc i k n (successes k n) ∙ rw e (omega (arith, none_yet k n i (omega arith)))

once_each : (k n i : ℕ) → i < n → results_of i (successes k n) ≡ 1
once_each k zero i h = absurd (omega arith)
once_each k (suc n) i h = results_snoc i k n (successes k n) ∙ split (eqb n i)
    (λ t. let z = eqb-true n i t in rw t (omega (arith, none_yet k n i (omega arith))))
    (λ t. let z = eqb-false n i t in rw t (omega (arith, once_each k n i (below z))))
  where
    below : (n ≡ i → ⊥) → i < n
    below z = omega arith

no_events : (k n : ℕ) → events_of (successes k n) ≡ []
no_events k zero = refl
no_events k (suc n) = events_snoc k n (successes k n) (no_events k n)

all_chosen : (k n : ℕ) → AsChosen k (λ i. succeeds) (successes k n)
all_chosen k zero = tt
all_chosen k (suc n) = chosen_snoc k n (successes k n) (all_chosen k n)

in_order : (k n : ℕ) → 1 ≤ n → Order k n (λ i. succeeds) [] (successes k n)
in_order k zero h = absurd (omega arith)
in_order k (suc n) h = record {
  once = once_each k (suc n);
  only = none_yet k (suc n);
  chosen = all_chosen k (suc n);
  those = no_events k (suc n);
  last = (successes k n, record { issue = k; number = n; ending = 1 }, refl);
}

-- ---- stations that a plan meets

calls_append : (l m : List Call) (s : Station) → calls s (l ++ m) ≡ calls (calls s l) m
calls_append [] m s = refl
calls_append (c ∷ l) m s = calls_append l m (station_after s c)

images_append : (l m : List Call) → NoImages l → NoImages m → NoImages (l ++ m)
images_append [] m a b = b
images_append (run.request n set ∷ l) m a b = images_append l m a b
images_append (run.reports r ∷ l) m a b = images_append l m a b
images_append (run.event e ∷ l) m a b = images_append l m a b
images_append (run.pictures p ∷ l) m a b = absurd a
images_append (run.ask ∷ l) m a b = images_append l m a b

no_images_lem : (k n : ℕ) → NoImages (successes k n)
no_images_lem k zero = tt
no_images_lem k (suc n) = images_append (successes k n) (success k n ∷ []) (no_images_lem k n) tt

-- what every one of them has
pub record Met (s : Station) : Type 0 where
  pub reached : Reached s
  pub idle : s.count ≡ 0
  pub whole : s.apart ≡ 0

module _ (s : Station) (M : Met s) (x : PlanSet) (e : answer_number s (request_of_set x) ≡ 0) where
  -- every order of its results, and the one in which it is judged
  pub alike : (l : List Call) → Order (present_issue (set_opened s x)) x.count (λ i. succeeds) [] l
      → Alike (set_opened s x) l (successes (present_issue (set_opened s x)) x.count)
  alike l O = any_order s M.reached x.count (set_of x.bytes) e (λ i. succeeds) [] l _ O
      (in_order (present_issue (set_opened s x)) x.count (request_has s _ _ e).orderly.readable.some)

  -- its calls
  abbrev since : List Call
  since = request_of_set x ∷ successes (present_issue (set_opened s x)) x.count

  after_reached : Reached (after_set s x)
  after_reached = let R = M.reached in record {
    origin = R.origin;
    begins = R.begins;
    since = R.since ++ since;
    no_images = images_append R.since since R.no_images (no_images_lem (present_issue (set_opened s x)) x.count);
    here = ap (λ (t : Station). calls t since) R.here ∙ sym (calls_append R.since since R.origin);
  }

  -- a success sets nothing apart
  results_whole : (k n : ℕ) (t : Station) → (calls t (successes k n)).apart ≡ t.apart
  results_whole k zero t = refl
  results_whole k (suc n) t =
      ap (λ (u : Station). u.apart) (calls_snoc (successes k n) t (success k n))
      ∙ ⊎_elim (λ z. z) (λ z. absurd (let w : 1 ≡ 2 = z.1 in omega arith)) (only_stuck_sets_apart (calls t (successes k n)) (success k n))
      ∙ results_whole k n t

  pub after_met : Met (after_set s x)
  after_met = record {
    reached = after_reached;
    idle = (alike _ (in_order (present_issue (set_opened s x)) x.count (request_has s _ _ e).orderly.readable.some)).closed.0;
    whole = results_whole (present_issue (set_opened s x)) x.count (set_opened s x)
        ∙ ⊎_elim (λ z. z) (λ z. absurd z.1) (only_stuck_sets_apart s (request_of_set x)) ∙ M.whole;
  }

pub met_after : (xs : List PlanSet) (s : Station) → Met s → EachTaken s xs → Met (after_sets s xs)
met_after [] s M e = M
met_after (x ∷ xs) s M e = met_after xs (after_set s x) (after_met s M x e.0) e.1
