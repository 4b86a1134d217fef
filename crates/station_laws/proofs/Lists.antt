-- Lists of results and car events, as the machine's acts and as calls of the station: an order of the one is an order of the other, and
-- orders exist. Assumes nothing.
use mathlib.Core.Path.{◌≡◌, refl, sym, ap, ap₂, subst, ◌∙◌}
use mathlib.Core.Bool.{cond}
use mathlib.Core.List.{List, [], ◌∷◌, ◌++◌, map}
use Prim.Native.Nat.{ℕ, ◌+◌}
use native.Mathlib.Omega.{arith}
use lib.Dec.{eqb}
use Rattle.any_order.proofs.Machine.{Outcome, failed, finished, stuck, Act, result, event}
use Rattle.any_order.proofs.Orders as machine-orders
use Rattle.any_order.proofs.Exists as exists
use Rattle.station.specs.declared.Report.{Report}
use Rattle.station_laws.specs.Runs as run
use Rattle.station_laws.specs.Runs.{Call, NoImages}
use Rattle.station_laws.specs.Orders.{Fate, fails, succeeds, sticks, fate_number, results_of, events_of, AsChosen, Order}
use Rattle.station_laws.specs.SafeInAnyOrder.{OrdersExist}

-- what is reported of an instruction, by its fate
abbrev pub outcome : Fate → Outcome
outcome fails = failed
outcome succeeds = finished
outcome sticks = stuck

-- and its number
abbrev pub ending : Outcome → ℕ
ending failed = 0
ending finished = 1
ending stuck = 2

-- an act as a call, results with issue k
abbrev pub as_call : ℕ → Act ℕ → Call
as_call k (result j o) = run.result_call k j (ending o)
as_call k (event e) = run.event e

pub no_images_lem : (k : ℕ) (l : List (Act ℕ)) → NoImages (map (as_call k) l)
no_images_lem k [] = tt
no_images_lem k (result j o ∷ l) = no_images_lem k l
no_images_lem k (event e ∷ l) = no_images_lem k l

-- ---- counts, events and choices are the same

same_results : (k i : ℕ) (l : List (Act ℕ)) → results_of i (map (as_call k) l) ≡ machine-orders.results_of i l
same_results k i [] = refl
same_results k i (result j o ∷ l) = ap (λ (n : ℕ). cond (eqb j i) 1 0 + n) (same_results k i l)
same_results k i (event e ∷ l) = same_results k i l

same_events : (k : ℕ) (l : List (Act ℕ)) → events_of (map (as_call k) l) ≡ machine-orders.events_of l
same_events k [] = refl
same_events k (result j o ∷ l) = same_events k l
same_events k (event e ∷ l) = ap (λ (es : List ℕ). e ∷ es) (same_events k l)

pub told_outcome : (f : Fate) → ending (outcome f) ≡ fate_number f
told_outcome fails = refl
told_outcome succeeds = refl
told_outcome sticks = refl

by_number : (o : Outcome) (f : Fate) → ending o ≡ fate_number f → o ≡ outcome f
by_number failed fails e = refl
by_number failed succeeds e = absurd (omega arith)
by_number failed sticks e = absurd (omega arith)
by_number finished fails e = absurd (omega arith)
by_number finished succeeds e = refl
by_number finished sticks e = absurd (omega arith)
by_number stuck fails e = absurd (omega arith)
by_number stuck succeeds e = absurd (omega arith)
by_number stuck sticks e = refl

module _ (k : ℕ) (fate : ℕ → Fate) where
  abbrev pub choice : ℕ → Outcome
  choice j = outcome (fate j)

  heard : (l : List (Act ℕ)) → AsChosen k fate (map (as_call k) l) → machine-orders.AsChosen choice l
  heard [] c = tt
  heard (result j o ∷ l) c = (by_number o (fate j) c.1, heard l c.2)
  heard (event e ∷ l) c = heard l c

  spoken : (l : List (Act ℕ)) → machine-orders.AsChosen choice l → AsChosen k fate (map (as_call k) l)
  spoken [] c = tt
  spoken (result j o ∷ l) c = (refl, ap ending c.0 ∙ told_outcome (fate j), spoken l c.1)
  spoken (event e ∷ l) c = spoken l c

  -- results and events as chosen are acts
  pub acts : (l : List Call) → AsChosen k fate l → (a : List (Act ℕ)) × (l ≡ map (as_call k) a)
  acts [] c = ([], refl)
  acts (run.request n set ∷ l) c = absurd c
  acts (run.reports r ∷ l) c =
      let (a, e) = acts l c.2 in
      let j = r.number in
      let told_so = c.1 ∙ sym (told_outcome (fate j)) in
      (result j (choice j) ∷ a, ap (λ (x : ℕ). run.result_call x j r.ending ∷ l) c.0 ∙ ap₂ (λ (d : ℕ) (m : List Call). run.result_call k j d ∷ m) told_so e)
  acts (run.event x ∷ l) c = let (a, e) = acts l c in (event x ∷ a, ap (λ (m : List Call). run.event x ∷ m) e)
  acts (run.pictures p ∷ l) c = absurd c
  acts (run.ask ∷ l) c = absurd c

-- ---- the last

map_append : (k : ℕ) (l m : List (Act ℕ)) → map (as_call k) (l ++ m) ≡ map (as_call k) l ++ map (as_call k) m
map_append k [] m = refl
map_append k (a ∷ l) m = ap (λ (n : List Call). as_call k a ∷ n) (map_append k l m)

-- where the calls end with a result, so do the acts
abbrev Last : List (Act ℕ) → Type 0
Last l = (front : List (Act ℕ)) × (j : ℕ) × (o : Outcome) × (l ≡ front ++ (result j o ∷ []))

never : {A : Type 0} → ◌≡◌ {A = ℕ} 0 1 → A
never z = absurd (omega arith)

later : {l : List (Act ℕ)} (a : Act ℕ) → Last l → Last (a ∷ l)
later a p = (a ∷ p.0, p.1, p.2, ap (λ (m : List (Act ℕ)). a ∷ m) p.3)

last_of : (k : ℕ) (l : List (Act ℕ)) (front : List Call) (r : Report) → map (as_call k) l ≡ front ++ (run.reports r ∷ []) → Last l
last_of k [] [] r e = never (cc)
last_of k [] (c ∷ front) r e = never (cc)
last_of k (result j o ∷ []) [] r e = ([], j, o, refl)
last_of k (event x ∷ []) [] r e = never (cc)
last_of k (a ∷ b ∷ l) [] r e = never (cc)
last_of k (a ∷ l) (c ∷ front) r e =
    let t : map (as_call k) l ≡ front ++ (run.reports r ∷ []) = cc in
    later a (last_of k l front r t)

-- ---- orders

module _ (k : ℕ) {n : ℕ} {fate : ℕ → Fate} {events : List ℕ} {l : List (Act ℕ)} where
  pub order_heard : Order k n fate events (map (as_call k) l) → machine-orders.Order n (choice k fate) events l
  order_heard O = record {
    once = λ i h. sym (same_results k i l) ∙ O.once i h;
    only = λ i h. sym (same_results k i l) ∙ O.only i h;
    chosen = heard k fate l O.chosen;
    events = sym (same_events k l) ∙ O.those;
    last = (let (front, r, e) = O.last in last_of k l front r e);
  }

  order_spoken : machine-orders.Order n (choice k fate) events l → (front : List Call) (r : Report) → map (as_call k) l ≡ front ++ (run.reports r ∷ []) → Order k n fate events (map (as_call k) l)
  order_spoken O front r e = record {
    once = λ i h. same_results k i l ∙ O.once i h;
    only = λ i h. same_results k i l ∙ O.only i h;
    chosen = spoken k fate l O.chosen;
    those = same_events k l ∙ O.events;
    last = (front, r, e);
  }

pub orders_exist : OrdersExist
orders_exist k n i h fate events =
    let (f, O) = exists.orders_exist ℕ n i h (choice k fate) events in
    let e : map (as_call k) (f ++ (result i (choice k fate i) ∷ [])) ≡ map (as_call k) f ++ (run.result_call k i (fate_number (fate i)) ∷ []) =
    map_append k f (result i (choice k fate i) ∷ []) ∙ ap (λ (d : ℕ). map (as_call k) f ++ (run.result_call k i d ∷ [])) (told_outcome (fate i)) in
    (map (as_call k) f, subst (Order k n fate events) e (order_spoken k O (map (as_call k) f) (record { issue = k; number = i; ending = fate_number (fate i) }) e))
