-- For every choice of which stuck instructions did in fact finish: the record with those applied is sound, has the same cars, allows what
-- waits, and does not depend on their order. Assumes nothing.
use mathlib.Core.Path.{◌≡◌, refl, sym, ap, ◌∙◌}
use mathlib.Core.Bool.{Bool, true, false, ◌||◌}
use mathlib.Core.List.{List, [], ◌∷◌}
use Prim.Native.Nat.{ℕ, ◌^◌, ◌<◌}
use native.Mathlib.Omega.{arith}
use lib.Dec.{eqb}
use lib.ListN.{length}
use borrow.Author.Tests.{eqb-true, eqb-false, eq-eqb}
use Rattle.bits.specs.Bits.{bit, image}
use Rattle.bits.proofs.Cases.{split, clash}
use Rattle.bits.proofs.Digits.{bit_ext, packed_lt}
use Rattle.floor.specs.Cars.{cars}
use Rattle.floor.specs.Sound.{sound}
use Rattle.floor.proofs.Promises.{layout_cars, sound_exactly}
use Rattle.rules.specs.declared.Code.{Code}
use Rattle.any_order.proofs.Jams as machine-jams
use Rattle.any_order.proofs.Jams.{Whichever}
use Rattle.any_order.proofs.Stuck.{good_whichever}
use Rattle.station.specs.declared.Station.{Station}
use Rattle.station.specs.Held.{code_at, held_next}
use Rattle.station.specs.Station.{fit}
use Rattle.station_laws.specs.Runs as run
use Rattle.station_laws.specs.Runs.{Call, answer_number, station_after, calls}
use Rattle.station_laws.specs.Jams.{jammed, jams, stuck, jam_at, has, Picks, applied, finished, Chosen}
use Rattle.station_laws.specs.SafeInAnyOrder.{AlwaysLaidOut, CarsCounted, FinishedAnyOrder, WaitsAnyway}
use Rattle.station_laws.proofs.Instance.{rules, seen_of, cars_in, framed, next_cars, allowed_has}
use Rattle.station_laws.proofs.Calls.{image_has, image_is}
use Rattle.station_laws.proofs.EachCall.{unfit_is, untouched}
use Rattle.station_laws.proofs.Steps.{steps}
use Rattle.station_laws.proofs.Link.{view, jams_of, Sane, fit_sane, good_step, image_good}
use Rattle.station_laws.proofs.Always.{begins_has, cars_of, counted}

-- ---- in good order, with what is stuck

sane_call : (js : List Code) (s : Station) (c : Call) → Sane js s → Sane (jammed s c js) (station_after s c)
sane_call js s (run.request n set) G = good_step js s G _ _ (steps s (run.request n set) tt)
sane_call js s (run.reports r) G = good_step js s G _ _ (steps s (run.reports r) tt)
sane_call js s (run.event e) G = good_step js s G _ _ (steps s (run.event e) tt)
sane_call js s run.ask G = good_step js s G _ _ (steps s run.ask tt)
sane_call js s (run.pictures p) G = split (eqb (answer_number s (run.pictures p)) 0)
    (λ t. let w = image_has s p.bits p.apart (eqb-true _ 0 t) in
    rw (t, ap (λ o. o.station) (image_is s p.bits p.apart w)) (image_good js s G p.bits w.1 w.2))
    (λ t. rw (t, untouched s (run.pictures p) (eqb-false _ 0 t)) G)

pub sane_calls : (l : List Call) (js : List Code) (s : Station) → Sane js s → Sane (jams s l js) (calls s l)
sane_calls [] js s G = G
sane_calls (c ∷ l) js s G = sane_calls l (jammed s c js) (station_after s c) (sane_call js s c G)

-- ---- a choice is the machine's

has_same : (l : List ℕ) (j : ℕ) → machine-jams.has l j ≡ has l j
has_same [] j = refl
has_same (i ∷ l) j = ap (λ (b : Bool). eqb i j || b) (has_same l j)

pub picks_same : (n : ℕ) (l : List ℕ) → Picks n l → machine-jams.Picks n l
picks_same n [] p = tt
picks_same n (i ∷ l) p = (p.0, has_same l i ∙ p.1, picks_same n l p.2)

applied_same : (js : List Code) (p : List ℕ) (r : ℕ) → machine-jams.applied rules (jams_of js) p r ≡ applied js p r
applied_same js [] r = refl
applied_same js (i ∷ p) r = applied_same js p (image (held_next (jam_at js i) (bit r)))

module _ (s : Station) (f : fit s ≡ true) (l : List Call) (p : List ℕ) (h : Chosen s l p) where
  whichever : Whichever rules (jams_of (stuck s l)) (view (calls s l)) p
  whichever = good_whichever rules seen_of cars_in framed _ _ (sane_calls l [] s (fit_sane s f)) p (picks_same _ p h)

  finished_is : machine-jams.applied rules (jams_of (stuck s l)) p (calls s l).bits ≡ finished s l p
  finished_is = applied_same (stuck s l) p (calls s l).bits

  finished_sound : sound (finished s l p) ≡ true
  finished_sound = ap sound (sym finished_is) ∙ whichever.sound

  pub finished_cars : cars (bit (finished s l p)) ≡ cars_of (calls s l)
  finished_cars = ap (λ (r : ℕ). cars (bit r)) (sym finished_is)
      ∙ whichever.cars (λ r. cars (bit r)) (λ x r z a. next_cars x r z (allowed_has x r a).0)

pub always_laid_out : AlwaysLaidOut
always_laid_out s b l p h = (sound_exactly (finished s l p)).0 (finished_sound s (begins_has s b).0 l p h)

-- ---- the cars

-- on a station that is not fit nothing gets stuck
pub none_stuck : (l : List Call) (s : Station) → fit s ≡ false → (stuck s l ≡ []) × (calls s l ≡ s)
none_stuck [] s f = (refl, refl)
none_stuck (c ∷ l) s f =
    let e = unfit_is s f c in
    let left_is : station_after s c ≡ s = ap (λ o. o.station) e in
    let none : jammed s c [] ≡ [] = rw e in
    rw (left_is, none) (none_stuck l s f)

pub none_chosen : (n : ℕ) (p : List ℕ) → n ≡ 0 → Picks n p → p ≡ []
none_chosen n [] e h = refl
none_chosen n (i ∷ p) e h = absurd (let l = h.0 in omega arith)

pub cars_counted : CarsCounted
cars_counted s l none p h before after u v =
    rw (layout_cars _ before u, layout_cars _ after v) (split (fit s)
    (λ f. rw (finished_cars s f l p h) (counted l none s))
    (λ f. rw (none_chosen (length (stuck s l)) p (ap length (none_stuck l s f).0) h) (counted l none s)))

-- ---- in any order

-- with some applied, the record is a number of 64 bits
applied_small : (js : List Code) (i : ℕ) (p : List ℕ) (r : ℕ) → applied js (i ∷ p) r < 2 ^ 64
applied_small js i [] r = packed_lt 64 0 _
applied_small js i (j ∷ p) r = applied_small js j p _

has_first : (j : ℕ) (q : List ℕ) → has (j ∷ q) j ≡ true
has_first j q = rw (eq-eqb j j refl)

pub finished_any_order : FinishedAnyOrder
finished_any_order s b l [] [] h k e = refl
finished_any_order s b l [] (j ∷ q) h k e = clash (has_first j q) (sym (e j))
finished_any_order s b l (i ∷ p) [] h k e = clash (has_first i p) (e i)
finished_any_order s b l (i ∷ p) (j ∷ q) h k e =
    bit_ext 64 (finished s l (i ∷ p)) (finished s l (j ∷ q)) (applied_small _ i p _) (applied_small _ j q _) (λ n m.
    ap (λ (r : ℕ). bit r n) (sym (finished_is s f l (i ∷ p) h))
    ∙ (whichever s f l (i ∷ p) h).order (j ∷ q) (picks_same _ (j ∷ q) k) (λ o. has_same (i ∷ p) o ∙ e o ∙ sym (has_same (j ∷ q) o)) n m
    ∙ ap (λ (r : ℕ). bit r n) (finished_is s f l (j ∷ q) k))
  where
    f : fit s ≡ true
    f = (begins_has s b).0

-- ---- what waits

pub waits_anyway : WaitsAnyway
waits_anyway s b l p h i m u =
    let f = (begins_has s b).0 in
    (allowed_has (code_at (calls s l).set i) (finished s l p)
    (ap (rules.allowed (code_at (calls s l).set i)) (sym (finished_is s f l p h)) ∙ (whichever s f l p h).allowed i (m, u))).0
