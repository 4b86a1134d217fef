-- The orders that `any_order` speaks of exist: for a set of any size, any events, and any instruction j of the set there
-- is one whose last result is j's. It is: the events, the results of the others by their numbers, the result of j.
-- Assumes nothing.
use Prim.Native.Nat.{ℕ, zero, suc, ◌+◌, ◌<◌}
use native.Mathlib.Omega.{arith}
use mathlib.Core.Path.{◌≡◌, refl, ap, ◌∙◌}
use mathlib.Core.List.{List, [], ◌∷◌, ◌++◌, map}
use mathlib.Core.Bool.{true, false, not, cond, ◌&&◌, and-false}
use lib.Dec.{ltb, eqb}
use borrow.Author.Tests.{ltb-true, ltb-false, lt-ltb, le-ltb, eqb-true, eqb-false, ne_eqb}
use Rattle.any_order.proofs.Machine.{Outcome, Act, result, event}
use Rattle.any_order.proofs.Orders.{results_of, events_of, AsChosen, Order}
use Rattle.any_order.proofs.Statements.{OrdersExist}
use Rattle.bits.proofs.Cases.{split}

-- ---- one more result at the end

module _ {E : Type 0} where
  abbrev with_result : List (Act E) → ℕ → Outcome → List (Act E)
  with_result l k o = l ++ (result k o ∷ [])

  results_more : (i : ℕ) (l : List (Act E)) (k : ℕ) (o : Outcome) → results_of i (with_result l k o) ≡ results_of i l + cond (eqb k i) 1 0
  results_more i [] k o = omega arith
  results_more i (result n x ∷ l) k o = omega (arith, results_more i l k o)
  results_more i (event e ∷ l) k o = results_more i l k o

  events_more : (l : List (Act E)) (k : ℕ) (o : Outcome) → events_of (with_result l k o) ≡ events_of l
  events_more [] k o = refl
  events_more (result n x ∷ l) k o = events_more l k o
  events_more (event e ∷ l) k o = ap (λ x. e ∷ x) (events_more l k o)

  chosen_more : (choice : ℕ → Outcome) (l : List (Act E)) (k : ℕ) → AsChosen choice l → AsChosen choice (with_result l k (choice k))
  chosen_more choice [] k p = (refl, tt)
  chosen_more choice (result n x ∷ l) k p = (p.0, chosen_more choice l k p.1)
  chosen_more choice (event e ∷ l) k p = chosen_more choice l k p

  -- ---- nothing but events

  no_results : (i : ℕ) (es : List E) → results_of i (map event es) ≡ 0
  no_results i [] = refl
  no_results i (e ∷ es) = no_results i es

  only_events : (es : List E) → events_of (map event es) ≡ es
  only_events [] = refl
  only_events (e ∷ es) = ap (λ x. e ∷ x) (only_events es)

  chosen_events : (choice : ℕ → Outcome) (es : List E) → AsChosen choice (map event es)
  chosen_events choice [] = tt
  chosen_events choice (e ∷ es) = chosen_events choice es

-- ---- the events, and the results of the first n instructions without j's

below_suc : (i n : ℕ) → eqb n i ≡ false → ltb i (suc n) ≡ ltb i n
below_suc i n t = let ne = eqb-false n i t in split (ltb i n)
    (λ u. let h = ltb-true i n u in rw u (lt-ltb i (suc n) (omega arith)))
    (λ u. let h = ltb-false i n u in rw u (le-ltb i (suc n) (omega arith)))

module _ {E : Type 0} (choice : ℕ → Outcome) (es : List E) (j : ℕ) where
  record Front (n : ℕ) (l : List (Act E)) : Type 0 where
    results : (i : ℕ) → results_of i l ≡ cond (ltb i n && not (eqb j i)) 1 0
    chosen : AsChosen choice l
    events : events_of l ≡ es

  skipped : (n : ℕ) (l : List (Act E)) → eqb j n ≡ true → Front n l → Front (suc n) l
  skipped n l e F = record {
    results = λ i. F.results i ∙ split (eqb n i) (λ t. rw (← eqb-true n i t, e, and-false (ltb n n), and-false (ltb n (suc n)))) (λ t. rw (below_suc i n t));
    chosen = F.chosen;
    events = F.events;
  }

  added : (n : ℕ) (l : List (Act E)) → eqb j n ≡ false → Front n l → Front (suc n) (with_result l n (choice n))
  added n l e F = record {
    results = λ i. results_more i l n (choice n) ∙ rw (F.results i) (split (eqb n i)
        (λ t. rw (t, ← eqb-true n i t, e, le-ltb n n (omega arith), lt-ltb n (suc n) (omega arith)))
        (λ t. rw (t, below_suc i n t) (omega arith)));
    chosen = chosen_more choice l n F.chosen;
    events = events_more l n (choice n) ∙ F.events;
  }

  front : (n : ℕ) → (l : List (Act E)) × Front n l
  front zero = (map event es, record { results = λ i. no_results i es ∙ rw (le-ltb i 0 (omega arith)); chosen = chosen_events choice es; events = only_events es })
  front (suc n) = let (l, F) = front n in split (eqb j n) (λ e. (l, skipped n l e F)) (λ e. (with_result l n (choice n), added n l e F))

  -- with the result of j last it is an order
  closed : (n : ℕ) (l : List (Act E)) → j < n → Front n l → Order n choice es (with_result l j (choice j))
  closed n l h F = record {
    once = λ i m. results_more i l j (choice j) ∙ rw (F.results i, lt-ltb i n m) (split (eqb j i) (λ t. rw t) (λ t. rw t));
    only = λ i m. results_more i l j (choice j) ∙ rw (F.results i, le-ltb i n m, ne_eqb j i (λ e. omega arith));
    chosen = chosen_more choice l j F.chosen;
    events = events_more l j (choice j) ∙ F.events;
    last = (l, j, choice j, refl);
  }

pub orders_exist : (E : Type 0) → OrdersExist E
orders_exist E n j h choice es = let (l, F) = front choice es j n in (l, closed choice es j n l h F)
