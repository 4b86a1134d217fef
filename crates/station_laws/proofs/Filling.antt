-- The promises of specs/Filling.antt kept: a garage that keeps places open is filled so far and no further. Assumes nothing.
use mathlib.Core.Path.{◌≡◌, refl, ap, ap₂, ◌∙◌}
use mathlib.Core.Bool.{Bool, true, false, ◌&&◌}
use mathlib.Core.List.{List, [], ◌∷◌, ◌++◌}
use Prim.Native.Nat.{ℕ, ◌+◌, ◌≤◌}
use native.Mathlib.Omega.{arith}
use lib.Dec.{eqb, lit<}
use lib.ListN.{length}
use borrow.Author.Tests.{ltb-true, ltb-false, le-ltb, eqb-true}
use Rattle.bits.specs.Bits.{bit, image, digit}
use Rattle.bits.proofs.Cases.{split, clash, both, and_intro, true→T}
use Rattle.bits.proofs.Digits.{bit_image, digit_lt}
use Rattle.floor.specs.Floor.{raised_car, street, drive_in, drives}
use Rattle.floor.specs.Tests.{free, holds, height_is}
use Rattle.floor.specs.Cars.{cars}
use Rattle.floor.specs.Sound.{sound_rules, sound, total}
use Rattle.floor.specs.Promises.{empty_at_street}
use Rattle.floor.proofs.Promises.{layout_cars, sound_exactly, at_most_28}
use Rattle.floor.proofs.Reading.{nth_holds}
use Rattle.floor.proofs.Standing.{or_else}
use Rattle.rules.specs.declared.Event.{Event}
use Rattle.rules.specs.declared.Event.TheVariants.{BeginIn, BeginOut, EndDone, EndNotDone}
use Rattle.std.specs.declared.option.Option.{Option}
use Rattle.std.specs.declared.option.Option.TheVariants.{Some, None}
use Rattle.rules.specs.Events.{possible, filled, places_open, after_event}
use Rattle.rules.specs.declared.Code.{Code}
use Rattle.rules.specs.Codes.{read_event, event_code}
use Rattle.rules.proofs.CodeLaws.{event_one_form}
use Rattle.rules_laws.proofs.Laws.{event_image_cars}
use Rattle.answers.specs.Answers.{number_of}
use Rattle.station.specs.declared.Station.{Station}
use Rattle.station.specs.Held.{code_at, held_allowed, held_next, lift_in}
use Rattle.station.specs.Station.{fit, apart_with}
use Rattle.station_laws.specs.Runs as run
use Rattle.station_laws.specs.Runs.{Call, answer_number, station_after, calls, NoImages, drove}
use Rattle.station_laws.specs.Jams.{stuck, finished}
use Rattle.station_laws.specs.Filling.{RoomLeft, KeptExactly, EndsUntested, NeverThirty, StaysOpen}
use Rattle.station_laws.proofs.Reach.{drive_outside, held_outside}
use Rattle.station_laws.proofs.Instance.{possible_as, open_as, after_as, next_cars}
use Rattle.station_laws.proofs.Fits.{fit_has}
use Rattle.station_laws.proofs.Calls.{following, answering_bits, event_has, event_number}
use Rattle.station_laws.proofs.EachCall.{unfit_is}
use Rattle.station_laws.proofs.Steps.{Step, refuses, opens, fails, succeeds, sticks, drives as driving, tells, along}
use Rattle.station_laws.proofs.Always.{cars_of, counted}
use Rattle.station_laws.proofs.Jammed.{finished_cars, none_stuck, none_chosen}
use Rattle.station_laws.proofs.Drivers.{event_record, event_refused}

-- ---- the begin of a drive-in

pub room_left : RoomLeft
unfolding places_open
room_left s z found y = let l = ltb-true (cars (bit s.bits)) filled ((event_record s BeginIn).0.0 z).4 in omega (arith, layout_cars _ found y)

pub kept_exactly : KeptExactly
unfolding places_open
kept_exactly s found y =
    let e = layout_cars (bit s.bits) found y in
    let (there, back) = (event_refused s BeginIn).3 in (
      λ z. let (f, b, l, p, o) = there z in let n = ltb-false (cars (bit s.bits)) filled o in (f, b, l, p, omega arith),
      λ h. back (h.0, h.1, h.2, h.3, le-ltb (cars (bit s.bits)) filled (let n = h.4 in omega arith)),
    )

-- ---- no other event

-- an event that is told 33 leaves too few places open
told_kept : (s : Station) (e : Event) (n : ℕ) → n ≡ event_code e → answer_number s (run.event n) ≡ 33 → places_open e (bit s.bits) ≡ false
told_kept s e n i z = ((event_refused s e).3.0 (rw i at z)).4

-- a number that is no event's is told otherwise
untold : (s : Station) (n : ℕ) → read_event n ≡ None → answer_number s (run.event n) ≡ 33 → ⊥
untold s n i z = split (fit s)
    (λ f. split (lift_in s.set s.count)
    (λ b. let k : answer_number s (run.event n) ≡ 4 = event_number s n f ∙ rw (i, b) in omega arith)
    (λ b. let k : answer_number s (run.event n) ≡ 4 = event_number s n f ∙ rw (i, b) in omega arith))
    (λ f. let k : answer_number s (run.event n) ≡ 16 = ap (λ o. number_of o.answer) (unfit_is s f (run.event n)) in omega arith)

pub ends_untested : EndsUntested
unfolding places_open
ends_untested s n z = go (read_event n) refl
  where
    go : (v : (Option Event)) → read_event n ≡ v → n ≡ 1
    go (Some BeginIn) i = event_one_form n BeginIn i
    go (Some BeginOut) i = clash refl (told_kept s BeginOut n (event_one_form n BeginOut i) z)
    go (Some EndDone) i = clash refl (told_kept s EndDone n (event_one_form n EndDone i) z)
    go (Some EndNotDone) i = clash refl (told_kept s EndNotDone n (event_one_form n EndNotDone i) z)
    go None i = absurd (untold s n i z)

-- ---- no thirtieth

-- a sound record with a drive-in under way has the lift at street and empty
driven_into : (r : ℕ) → sound r ≡ true → bit r drive_in ≡ true → holds empty_at_street (bit r) ≡ true
driven_into r s d =
    let kept = true→T ((sound_exactly r).0 s).rules in
    and_intro
    (or_else drives (height_is street) (bit r) (nth_holds (bit r) sound_rules kept 13) drive_in tt d)
    (or_else (drive_in ∷ []) (free (raised_car ∷ [])) (bit r) (nth_holds (bit r) sound_rules kept 14) drive_in tt d)

-- so it has at most 28 cars
driven_into_few : (r : ℕ) → sound r ≡ true → bit r drive_in ≡ true → cars (bit r) ≤ 28
unfolding total
driven_into_few r s d = at_most_28 r (cars (bit r)) (rw s) (driven_into r s d)

-- what a call that drives a car in is
in_has : (s : Station) (c : Call) → drove 1 s c ≡ 1 → (fit s ≡ true) × (bit s.bits drive_in ≡ true) × NoImages (c ∷ [])
in_has s (run.request n set) e = absurd (omega arith)
in_has s (run.reports r) e = absurd (omega arith)
in_has s (run.pictures p) e = absurd (omega arith)
in_has s run.ask e = absurd (omega arith)
in_has s (run.event n) e =
    let (a, b) = both (eqb n 3) (eqb (answer_number s (run.event n)) 0 && bit s.bits drive_in) (digit_one _ e) in
    let (z, d) = both (eqb (answer_number s (run.event n)) 0) (bit s.bits drive_in) b in
    ((event_has s n (eqb-true _ 0 z)).0, d, tt)
  where
    digit_one : (b : Bool) → digit b ≡ 1 → b ≡ true
    digit_one true e = refl
    digit_one false e = absurd (omega arith)

calls_more : (s : Station) (l : List Call) (c : Call) → calls s (l ++ (c ∷ [])) ≡ station_after (calls s l) c
calls_more s [] c = refl
calls_more s (d ∷ l) c = calls_more (station_after s d) l c

-- after it
in_few : (s : Station) (c : Call) → drove 1 s c ≡ 1 → cars_of (station_after s c) ≤ 29
in_few s c e =
    let (f, d, i) = in_has s c e in
    omega (arith, e, counted (c ∷ []) i s, driven_into_few s.bits (fit_has s f).sound d)

pub never_thirty : NeverThirty
never_thirty s l c e p h end y = split (fit s)
    (λ f. omega (arith, layout_cars _ end y, finished_cars s f (l ++ (c ∷ [])) p h, ap cars_of (calls_more s l c), in_few (calls s l) c e))
    (λ f. clash (in_has (calls s l) c e).0 (ap fit (none_stuck l s f).1 ∙ f))

-- ---- places stay open

-- the cars that are in or on their way in
abbrev coming : ℕ → ℕ
coming r = cars (bit r) + digit (bit r drive_in)

-- an instruction keeps them
next_coming : (x : Code) (r : ℕ) → sound r ≡ true → held_allowed x (bit r) ≡ true → coming (image (held_next x (bit r))) ≡ coming r
next_coming x r s a = ap₂ (λ (n : ℕ) (b : Bool). n + digit b)
    (next_cars x r s a)
    (bit_image (held_next x (bit r)) drive_in (lit< tt) ∙ held_outside x r drive_in (drive_outside x drive_in refl))

-- an event keeps them, or there were fewer than 27 cars, or there are fewer now
after_coming : (e : Event) (r : ℕ) → sound r ≡ true → possible e (bit r) ≡ true → places_open e (bit r) ≡ true
    → coming r ≤ 27 → coming (image (after_event e (bit r))) ≤ 27
unfolding places_open after_event
after_coming BeginIn r s t o h = omega (arith, ltb-true (cars (bit r)) filled o, event_image_cars BeginIn r s t, digit_lt (bit (image (after_event BeginIn (bit r))) drive_in))
after_coming BeginOut r s t o h = omega (arith, h, event_image_cars BeginOut r s t, ap digit (bit_image (after_event BeginOut (bit r)) drive_in (lit< tt)))
after_coming EndDone r s t o h = omega (arith, h, event_image_cars EndDone r s t, ap digit (bit_image (after_event EndDone (bit r)) drive_in (lit< tt)))
after_coming EndNotDone r s t o h = omega (arith, h, event_image_cars EndNotDone r s t, ap digit (bit_image (after_event EndNotDone (bit r)) drive_in (lit< tt)))

-- so do calls
abbrev Open : Station → Type 0
Open s = coming s.bits ≤ 27

open_event : (v : (Option Event)) (r : ℕ) → sound r ≡ true → possible_as v r ≡ true → open_as v r ≡ true → coming r ≤ 27 → coming (after_as v r) ≤ 27
open_event (Some e) r s t o h = after_coming e r s t o h
open_event None r s t o h = h

open_step : (s t : Station) (c : Call) → Step s c t → Open s → Open t
open_step s t c (refuses n) h = h
open_step s t c (opens A) h = h
open_step s t c (fails {i} w) h = rw (answering_bits s i s.bits s.apart) h
open_step s t c (succeeds {i} p w a) h = rw (answering_bits s i (following s i) s.apart, next_coming (code_at s.set i) s.bits (fit_has s w.0).sound a) h
open_step s t c (sticks {i} p w) h = rw (answering_bits s i s.bits (apart_with s i)) h
open_step s t c (driving {e} d) h = open_event (read_event e) s.bits (fit_has s d.0).sound d.3 d.4 h
open_step s t c tells h = h

pub stays_open : StaysOpen
stays_open s l i p h start end u v o =
    let a : Open s = omega (arith, layout_cars (bit s.bits) start u, digit_lt (bit s.bits drive_in), o) in
    let b = along Open open_step l i s a in
    omega (arith, layout_cars _ end v, same, b)
  where
    same : cars (bit (finished s l p)) ≡ cars_of (calls s l)
    same = split (fit s) (λ f. finished_cars s f l p h) (λ f. rw (none_chosen (length (stuck s l)) p (ap length (none_stuck l s f).0) h))
