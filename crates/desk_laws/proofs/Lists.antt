-- Lists of results and car events with numbers, as the machine's acts and as calls of the desk: an order of the one is an order of the other.
-- Assumes nothing.
use mathlib.Core.Path.{◌≡◌, refl, sym, ap, ap₂, subst, ◌∙◌}
use mathlib.Core.Logic.{⊎_elim}
use mathlib.Core.Bool.{Bool, true, false, cond, ◌||◌, or-true}
use mathlib.Core.List.{List, [], ◌∷◌, ◌++◌, map}
use Prim.Native.Nat.{ℕ, ◌+◌, ◌<◌}
use native.Mathlib.Omega.{arith}
use lib.Dec.{eqb, ltb}
use borrow.Author.Tests.{eqb-true, eq-eqb, ltb-true, ltb-false}
use Rattle.bits.specs.Search.{some}
use Rattle.bits.proofs.Cases.{split, clash, alike, one_of}
use Rattle.bits.proofs.Search.{some_at, some_is}
use Rattle.any_order.proofs.Machine.{Outcome, moves, Act, result, event}
use Rattle.any_order.proofs.Orders.{results_of, events_of, AsChosen, Order}
use Rattle.station_laws.specs.Orders as station
use Rattle.station_laws.specs.Orders.{Fate}
use Rattle.station_laws.proofs.Lists.{told_outcome, as_call, choice, order_heard}
use Rattle.desk_laws.specs.Runs as desk
use Rattle.desk_laws.specs.Runs.{DeskCall, under}
use Rattle.desk_laws.specs.Orders.{drives_of, DeskOrder}
use Rattle.desk_laws.proofs.Follow.{as_desk, forget, under_is}

-- results and events as chosen are acts
module _ (k : ℕ) (fate : ℕ → Fate) where
  pub acts : (l : List DeskCall) → station.AsChosen k fate (map under l) → (a : List (Act (ℕ × ℕ))) × (l ≡ map (as_desk k) a)
  acts [] c = ([], refl)
  acts (desk.request n set ∷ l) c = absurd c
  acts (desk.reports r ∷ l) c =
      let (a, e) = acts l c.2 in
      let j = r.number in
      let told_so = c.1 ∙ sym (told_outcome (fate j)) in (
        result j (choice k fate j) ∷ a,
        ap (λ (x : ℕ). desk.reports (record { issue = x; number = j; ending = r.ending }) ∷ l) c.0
            ∙ ap₂ (λ (x : ℕ) (m : List DeskCall). desk.reports (record { issue = k; number = j; ending = x }) ∷ m) told_so e,
      )
  acts (desk.event x y ∷ l) c = let (a, e) = acts l c in (event (x, y) ∷ a, ap (λ (m : List DeskCall). desk.event x y ∷ m) e)
  acts (desk.pictures p n ns ∷ l) c = absurd c
  acts (desk.ask ∷ l) c = absurd c

-- ---- the same with the numbers forgotten

under_all : (k : ℕ) (a : List (Act (ℕ × ℕ))) → map under (map (as_desk k) a) ≡ map (as_call k) (map forget a)
under_all k [] = refl
under_all k (x ∷ a) = ap₂ ◌∷◌ (under_is k x) (under_all k a)

results_same : (j : ℕ) (a : List (Act (ℕ × ℕ))) → results_of j (map forget a) ≡ results_of j a
results_same j [] = refl
results_same j (result i o ∷ a) = ap (λ (n : ℕ). cond (eqb i j) 1 0 + n) (results_same j a)
results_same j (event e ∷ a) = results_same j a

chosen_same : (chosen : ℕ → Outcome) (a : List (Act (ℕ × ℕ))) → AsChosen chosen (map forget a) → AsChosen chosen a
chosen_same chosen [] c = tt
chosen_same chosen (result i o ∷ a) c = (c.0, chosen_same chosen a c.1)
chosen_same chosen (event e ∷ a) c = chosen_same chosen a c

drives_same : (k : ℕ) (a : List (Act (ℕ × ℕ))) → drives_of (map (as_desk k) a) ≡ events_of a
drives_same k [] = refl
drives_same k (result i o ∷ a) = drives_same k a
drives_same k (event e ∷ a) = ap (λ (l : List (ℕ × ℕ)). e ∷ l) (drives_same k a)

abbrev Last : List (Act (ℕ × ℕ)) → Type 0
Last a = (front : List (Act (ℕ × ℕ))) × (j : ℕ) × (o : Outcome) × (a ≡ front ++ (result j o ∷ []))

never : {A : Type 0} → ◌≡◌ {A = ℕ} 0 1 → A
never z = absurd (omega arith)

later : {a : List (Act (ℕ × ℕ))} (x : Act (ℕ × ℕ)) → Last a → Last (x ∷ a)
later x p = (x ∷ p.0, p.1, p.2, ap (λ (m : List (Act (ℕ × ℕ))). x ∷ m) p.3)

last_same : (a : List (Act (ℕ × ℕ))) (front : List (Act ℕ)) (j : ℕ) (o : Outcome) → map forget a ≡ front ++ (result j o ∷ []) → Last a
last_same [] [] j o e = never (cc)
last_same [] (x ∷ front) j o e = never (cc)
last_same (result i u ∷ []) [] j o e = ([], i, u, refl)
last_same (event x ∷ []) [] j o e = never (cc)
last_same (x ∷ y ∷ a) [] j o e = never (cc)
last_same (x ∷ a) (y ∷ front) j o e =
    let t : map forget a ≡ front ++ (result j o ∷ []) = cc in
    later x (last_same a front j o t)

pub order_acts : (k n : ℕ) (fate : ℕ → Fate) (drives : List (ℕ × ℕ)) (a : List (Act (ℕ × ℕ))) → DeskOrder k n fate drives (map (as_desk k) a)
    → Order n (choice k fate) drives a
order_acts k n fate drives a D =
    let O = order_heard k (subst (station.Order k n fate (map (λ d. d.0) drives)) (under_all k a) D.order) in
    record {
      once = λ j h. sym (results_same j a) ∙ O.once j h;
      only = λ j h. sym (results_same j a) ∙ O.only j h;
      chosen = chosen_same (choice k fate) a O.chosen;
      events = sym (drives_same k a) ∙ D.those;
      last = (let (front, j, o, e) = O.last in last_same a front j o e);
    }

-- ---- whether a list has a success, an order by the choice alone

module _ {E : Type 0} where
  abbrev pub succeeds : List (Act E) → Bool
  succeeds [] = false
  succeeds (result j o ∷ a) = moves o || succeeds a
  succeeds (event e ∷ a) = succeeds a

  module _ (n : ℕ) (chosen : ℕ → Outcome) where
    some_success : (a : List (Act E)) → AsChosen chosen a → ((j : ℕ) → 0 < results_of j a → j < n) → succeeds a ≡ true
        → some n (λ j. moves (chosen j)) ≡ true
    some_success [] c within e = clash e refl
    some_success (result i o ∷ a) c within e = ⊎_elim
        (λ (t : moves o ≡ true). some_at n _ i (within i (rw (eq-eqb i i refl) (omega arith))) (ap moves (sym c.0) ∙ t))
        (λ (t : succeeds a ≡ true). some_success a c.1 (λ j h. within j (omega arith)) t)
        (one_of (moves o) (succeeds a) e)
    some_success (event x ∷ a) c within e = some_success a c within e

    success_there : (a : List (Act E)) → AsChosen chosen a → (j : ℕ) → 0 < results_of j a → moves (chosen j) ≡ true → succeeds a ≡ true
    success_there [] c j h t = absurd (omega arith)
    success_there (result i o ∷ a) c j h t = split (eqb i j)
        (λ q. let m : moves o ≡ true = ap moves (c.0 ∙ ap chosen (eqb-true i j q)) ∙ t in rw m)
        (λ q. let g : 0 < results_of j a = omega (arith, rw q at h) in let m = success_there a c.1 j g t in rw m (or-true (moves o)))
    success_there (event x ∷ a) c j h t = success_there a c j h t

    pub succeeds_is : (es : List E) (a : List (Act E)) → Order n chosen es a → succeeds a ≡ some n (λ j. moves (chosen j))
    succeeds_is es a O = alike (succeeds a) (some n (λ j. moves (chosen j)))
        (some_success a O.chosen (λ j h. split (ltb j n)
        (λ t. ltb-true j n t)
        (λ t. absurd (omega (arith, O.only j (ltb-false j n t))))))
        (λ e. let (j, h, t) = some_is n (λ j. moves (chosen j)) e in success_there a O.chosen j (rw (O.once j h) (omega arith)) t)
