-- What a call that is taken says, and which calls change the record. Assumes nothing.
use mathlib.Core.Path.{◌≡◌, refl, ap}
use mathlib.Core.Bool.{true}
use mathlib.Core.Logic.{◌⊎◌, inl, inr}
use Prim.Native.Nat.{zero, suc, ◌≤◌}
use native.Mathlib.Omega.{arith}
use lib.Dec.{eqb}
use borrow.Author.Tests.{eqb-true, eqb-false}
use Rattle.bits.proofs.Cases.{split, clash}
use Rattle.rules.specs.declared.Event.TheVariants.{BeginIn, BeginOut, EndDone, EndNotDone}
use Rattle.rules.specs.declared.Event.{Event}
use Rattle.std.specs.declared.option.Option.{Option}
use Rattle.std.specs.declared.option.Option.TheVariants.{Some, None}
use Rattle.rules.specs.Codes.{read_event}
use Rattle.rules.proofs.CodeLaws.{event_one_form}
use Rattle.station.specs.declared.Station.{Station}
use Rattle.station.specs.Station.{apart_with}
use Rattle.station_laws.specs.Runs as run
use Rattle.station_laws.specs.Runs.{Call, answer_number}
use Rattle.station_laws.specs.AnswersRight.{ResultTaken, EventTaken, ChangesRecord, OnlySuccessChanges, ChangesApart, OnlyStuckSetsApart}
use Rattle.station_laws.proofs.Instance.{possible_as}
use Rattle.station_laws.proofs.Calls.{following, success_is, stuck_is, ending_has, answering_bits, answering_apart, event_has, event_is}
use Rattle.station_laws.proofs.EachCall.{untouched}
use Rattle.station_laws.proofs.Steps.{Step, refuses, opens, fails, succeeds, sticks, drives, tells, steps}

pub result_taken : ResultTaken
result_taken s k i zero e = inl refl
result_taken s k i (suc zero) e = inr (inl refl)
result_taken s k i (suc (suc zero)) e = inr (inr refl)
result_taken s k i (suc (suc (suc n))) e = absurd (omega (arith, ending_has s (record { issue = k; number = i; ending = suc (suc (suc n)) }) e))

pub event_taken : EventTaken
event_taken s e z = go (read_event e) refl (event_has s e z).3
  where
    go : (v : (Option Event)) → read_event e ≡ v → possible_as v s.bits ≡ true → (1 ≤ e) × (e ≤ 4)
    go (Some BeginIn) p t = rw (event_one_form e BeginIn p) (omega arith)
    go (Some BeginOut) p t = rw (event_one_form e BeginOut p) (omega arith)
    go (Some EndDone) p t = rw (event_one_form e EndDone p) (omega arith)
    go (Some EndNotDone) p t = rw (event_one_form e EndNotDone p) (omega arith)
    go None p t = clash t refl

-- ---- the record

abbrev Kept : Station → Call → Station → Type 0
Kept s c t = (t.bits ≡ s.bits) ⊎ ((answer_number s c ≡ 0) × ChangesRecord c)

kept_step : (s t : Station) (c : Call) → Step s c t → Kept s c t
kept_step s t c (refuses n) = inl refl
kept_step s t c (opens A) = inl refl
kept_step s t c (fails {i} w) = inl (answering_bits s i s.bits s.apart)
kept_step s t c (succeeds {i} {k} p w a) = inr (rw (success_is s k i p w), refl)
kept_step s t c (sticks {i} p w) = inl (answering_bits s i s.bits (apart_with s i))
kept_step s t c (drives {e} d) = inr (rw (event_is s e d), tt)
kept_step s t c tells = inl refl

pub only_success_changes : OnlySuccessChanges
only_success_changes s (run.request n set) = kept_step s _ _ (steps s (run.request n set) tt)
only_success_changes s (run.reports r) = kept_step s _ _ (steps s (run.reports r) tt)
only_success_changes s (run.event e) = kept_step s _ _ (steps s (run.event e) tt)
only_success_changes s run.ask = kept_step s _ _ (steps s run.ask tt)
only_success_changes s (run.pictures p) = split (eqb (answer_number s (run.pictures p)) 0)
    (λ t. inr (eqb-true _ 0 t, tt))
    (λ t. inl (ap (λ (u : Station). u.bits) (untouched s (run.pictures p) (eqb-false _ 0 t))))

-- ---- what is set apart

abbrev KeptApart : Station → Call → Station → Type 0
KeptApart s c t = (t.apart ≡ s.apart) ⊎ ((answer_number s c ≡ 0) × ChangesApart c)

apart_step : (s t : Station) (c : Call) → Step s c t → KeptApart s c t
apart_step s t c (refuses n) = inl refl
apart_step s t c (opens A) = inl refl
apart_step s t c (fails {i} w) = inl (answering_apart s i s.bits s.apart)
apart_step s t c (succeeds {i} p w a) = inl (answering_apart s i (following s i) s.apart)
apart_step s t c (sticks {i} {k} p w) = inr (rw (stuck_is s k i p w), refl)
apart_step s t c (drives d) = inl refl
apart_step s t c tells = inl refl

pub only_stuck_sets_apart : OnlyStuckSetsApart
only_stuck_sets_apart s (run.request n set) = apart_step s _ _ (steps s (run.request n set) tt)
only_stuck_sets_apart s (run.reports r) = apart_step s _ _ (steps s (run.reports r) tt)
only_stuck_sets_apart s (run.event e) = apart_step s _ _ (steps s (run.event e) tt)
only_stuck_sets_apart s run.ask = apart_step s _ _ (steps s run.ask tt)
only_stuck_sets_apart s (run.pictures p) = split (eqb (answer_number s (run.pictures p)) 0)
    (λ t. inr (eqb-true _ 0 t, tt))
    (λ t. inl (ap (λ (u : Station). u.apart) (untouched s (run.pictures p) (eqb-false _ 0 t))))
