-- `HoweverFar` of specs/Motion.antt holds, and the statements about stuck instructions alone follow from it. Assumes nothing.
use mathlib.Core.Path.{◌≡◌, refl, sym, ap, ◌∙◌}
use mathlib.Core.Bool.{true, not}
use mathlib.Core.List.{List, [], map}
use Prim.Native.Nat.{ℕ}
use borrow.Author.Tests.{not-true}
use Rattle.bits.proofs.Cases.{clash}
use Rattle.floor.proofs.Promises.{layout_cars, sound_exactly}
use Rattle.rules.specs.declared.Code.{Code}
use Rattle.station.specs.declared.Station.{Station}
use Rattle.station.specs.Held.{code_at}
use Rattle.station.specs.Station.{present_issue, marked}
use Rattle.station_laws.specs.Runs.{Call, calls, Begins}
use Rattle.station_laws.specs.Jams.{stuck, has, finished, Chosen}
use Rattle.station_laws.specs.SafeInAnyOrder.{AlwaysLaidOut, FinishedAnyOrder, WaitsAnyway, StillAllowed}
use Rattle.station_laws.specs.Motion.{Moving, of_set, of_stuck, set_numbers, stuck_numbers, is_among, Unheard, moved_on, in_fact, AllWaiting}
use Rattle.station_laws.specs.Motion.{LaidOutInFact, CarsInFact, AnyOrderInFact, AllowedInFact, HeardInFact, HoweverFar, WaitingListed}
use Rattle.station_laws.proofs.Instance.{allowed_has}
use Rattle.station_laws.proofs.Link.{Sane, fit_sane}
use Rattle.station_laws.proofs.Always.{begins_has, fit_always}
use Rattle.station_laws.proofs.Jammed.{sane_calls}
use Rattle.station_laws.proofs.MotionFloor.{Able, Choice, choice, once_each, picked}
use Rattle.station_laws.proofs.MotionFloor.{moved_sound, moved_cars, moved_allowed, moved_order}
use Rattle.station_laws.proofs.MotionHeard.{Owing, Arrived, results_arrive, done, done_once, done_same}
use Rattle.station_laws.proofs.MotionHeard.{moved_stuck, stuck_set, stuck_numbers_lem}
use Rattle.station_laws.proofs.RecoveryLists.{unmarked, order_exists}

module _ (s : Station) (b : Begins s) (l : List Call) where
  -- the station after the calls, and what is stuck
  abbrev now : Station
  now = calls s l

  abbrev jams : List Code
  jams = stuck s l

  sane : Sane jams now
  sane = sane_calls l [] s (fit_sane s (begins_has s b).0)

  -- what may have finished unheard of waits or is stuck
  unheard_able : (p : List Moving) → Unheard s l p → (m : Moving) → is_among p m ≡ true → Able now jams sane m
  unheard_able p U (of_set i) e = (picked _ (set_numbers p) U.from_set i e, U.waiting i e)
  unheard_able p U (of_stuck j) e = picked _ (stuck_numbers p) U.from_stuck j e

  chosen : (p : List Moving) → Unheard s l p → Choice now jams sane p now.bits
  chosen p U = choice now jams sane p (unheard_able p U) (once_each _ _ p U.from_set U.from_stuck)

  module _ (p : List Moving) (U : Unheard s l p) where
    -- ---- the floor

    pub laid_out_in_fact : LaidOutInFact s l p
    laid_out_in_fact = (sound_exactly (in_fact s l p)).0 (moved_sound now jams sane p now.bits (chosen p U))

    pub cars_in_fact : CarsInFact s l p
    cars_in_fact noted found u v =
        layout_cars _ found v ∙ moved_cars now jams sane p now.bits (chosen p U) ∙ sym (layout_cars _ noted u)

    pub any_order_in_fact : AnyOrderInFact s l p
    any_order_in_fact q T e = moved_order now jams sane p q now.bits (chosen p U) (chosen q T) e

    pub allowed_in_fact : AllowedInFact s l p
    allowed_in_fact i h u e =
        (allowed_has (code_at now.set i) (in_fact s l p)
        (moved_allowed now jams sane (of_set i) (h, u) p now.bits (chosen p U) e ∙ sane.allowed i (h, u))).0

    -- ---- the results

    module _ (q : List ℕ) (W : AllWaiting now q) where
      -- none of them has its result
      owing : Owing now q
      owing = record { once = W.once; waiting = λ i h. not-true _ (sym (W.all i (picked _ q W.once i h)) ∙ h) }

      -- and all of the choice are among them
      all_heard : (i : ℕ) → is_among p (of_set i) ≡ true → has q i ≡ true
      all_heard i e = W.all i (picked _ (set_numbers p) U.from_set i e) ∙ ap not (U.waiting i e)

      same_ones : (m : Moving) → is_among (done p (stuck_numbers p) q) m ≡ is_among p m
      same_ones = done_same p q all_heard

      heard_choice : Choice now jams sane (done p (stuck_numbers p) q) now.bits
      heard_choice = choice now jams sane (done p (stuck_numbers p) q)
          (λ m e. unheard_able p U m (sym (same_ones m) ∙ e))
          (done_once p _ _ (stuck_numbers p) q W.once U.from_stuck)

      arrives : Arrived jams (present_issue now) p (stuck_numbers p) now q
      arrives = results_arrive jams (present_issue now) p (stuck_numbers p) q now (fit_always l s (begins_has s b).0) refl owing

      -- in the order of their results, the stuck ones last, they make the same floor
      as_arrived : moved_on now.set jams (done p (stuck_numbers p) q) now.bits ≡ in_fact s l p
      as_arrived = moved_order now jams sane p (done p (stuck_numbers p) q) now.bits (chosen p U) heard_choice same_ones

    pub heard_in_fact : HeardInFact s l p
    heard_in_fact q W = ((arrives q W).fair, (arrives q W).ends ∙ as_arrived q W)

pub however_far : HoweverFar
however_far s b l p U =
    (laid_out_in_fact s b l p U, cars_in_fact s b l p U, any_order_in_fact s b l p U, allowed_in_fact s b l p U, heard_in_fact s b l p U)

-- the fourth part speaks of an order that exists
pub waiting_listed : WaitingListed
waiting_listed t = (unmarked t.count (marked t), order_exists t)

-- ---- the special cases: stuck ones alone, none of the set

-- a choice of the stuck ones
stuck_alone : (s : Station) (l : List Call) (p : List ℕ) → Chosen s l p → Unheard s l (map of_stuck p)
stuck_alone s l p h = record {
  from_set = rw (stuck_set p) tt;
  waiting = λ i e. clash e (ap (λ (y : List ℕ). has y i) (stuck_set p));
  from_stuck = rw (stuck_numbers_lem p) h;
}

-- the floor in fact is then the record with those applied
stuck_finished : (s : Station) (l : List Call) (p : List ℕ) → in_fact s l (map of_stuck p) ≡ finished s l p
stuck_finished s l p = moved_stuck (calls s l).set (stuck s l) p (calls s l).bits

-- `AlwaysLaidOut` is the first part of it (laid out)
pub always_laid_out_from : HoweverFar → AlwaysLaidOut
always_laid_out_from H s b l p h = rw (← stuck_finished s l p) (H s b l (map of_stuck p) (stuck_alone s l p h)).0

-- `FinishedAnyOrder` is the second (any order)
pub finished_any_order_from : HoweverFar → FinishedAnyOrder
finished_any_order_from H s b l p q h k e =
    sym (stuck_finished s l p)
    ∙ (H s b l (map of_stuck q) (stuck_alone s l q k)).2 (map of_stuck p) (stuck_alone s l p h) members
    ∙ stuck_finished s l q
  where
    members : (m : Moving) → is_among (map of_stuck p) m ≡ is_among (map of_stuck q) m
    members (of_set i) = ap (λ (y : List ℕ). has y i) (stuck_set p ∙ sym (stuck_set q))
    members (of_stuck j) = ap (λ (y : List ℕ). has y j) (stuck_numbers_lem p) ∙ e j ∙ sym (ap (λ (y : List ℕ). has y j) (stuck_numbers_lem q))

-- `WaitsAnyway` is the third (still allowed)
pub waits_anyway_from : HoweverFar → WaitsAnyway
waits_anyway_from H s b l p h i m u =
    rw (← stuck_finished s l p) ((H s b l (map of_stuck p) (stuck_alone s l p h)).3 i m u (ap (λ (y : List ℕ). has y i) (stuck_set p)))

-- and so is `StillAllowed`, where none has finished
pub still_allowed_from : HoweverFar → StillAllowed
still_allowed_from H s b l i m u = (H s b l [] (stuck_alone s l [] tt)).3 i m u refl
