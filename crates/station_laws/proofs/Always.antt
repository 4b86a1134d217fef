-- What holds after any calls: the station is fit; images apart, the record is a number of 64 bits and the cars are counted. Assumes nothing.
use mathlib.Core.Path.{◌∙◌, ◌≡◌, refl, sym, ap}
use mathlib.Core.Logic.{inr}
use mathlib.Core.Bool.{Bool, ◌&&◌, true, false, and-false}
use mathlib.Core.List.{List, [], ◌∷◌}
use Prim.Native.Nat.{ℕ, ◌+◌, ◌^◌, ◌<◌}
use native.Mathlib.Omega.{arith}
use lib.Dec.{eqb}
use borrow.Author.Tests.{ne_eqb, eqb-true, eqb-false}
use Rattle.bits.specs.Bits.{bit, image, digit}
use Rattle.bits.specs.Search.{some, every}
use Rattle.bits.proofs.Cases.{split}
use Rattle.bits.proofs.Digits.{packed_lt}
use Rattle.floor.specs.Cars.{cars}
use Rattle.floor.specs.Sound.{sound}
use Rattle.rules.specs.declared.Event.{Event}
use Rattle.std.specs.declared.option.Option.{Option}
use Rattle.std.specs.declared.option.Option.TheVariants.{Some, None}
use Rattle.rules.specs.declared.Code.{Code}
use Rattle.rules.specs.Codes.{read_event}
use Rattle.station.specs.declared.Station.{Station}
use Rattle.station.specs.Held.{code_at, held_next, lift_in, crosses_drive}
use Rattle.station.specs.Station.{fit, seeing, apart_with}
use Rattle.station_laws.specs.Runs as run
use Rattle.station_laws.specs.Runs.{Call, answer_number, station_after, calls, Begins, at_start, by_image, NoImages, drive_at, drove, cars_driven}
use Rattle.station_laws.specs.SafeInAnyOrder.{FitStays, NeverUnfit, StillAllowed}
use Rattle.station_laws.proofs.Reach.{under_way_kept, crosses_none, clear_is}
use Rattle.station_laws.proofs.Instance.{after_as, next_sound, after_sound, next_cars, event_counted}
use Rattle.station_laws.proofs.Fits.{Ready, fit_has, fit_start, fit_holding, fit_opened, fit_answering, with_small, waits_allowed}
use Rattle.station_laws.proofs.Calls.{following, answering_bits, event_is, image_has, image_is}
use Rattle.station_laws.proofs.EachCall.{untouched, unfit_is, fit_says}
use Rattle.station_laws.proofs.Steps.{Step, refuses, opens, fails, succeeds, sticks, drives, tells, steps, parts}
use Rattle.station_laws.proofs.Link.{ready_step}

-- ---- fit

-- no success begins a drive
still_clear : (s : Station) (x : Code) → crosses_drive s.bits s.set s.count ≡ false → crosses_drive (image (held_next x (bit s.bits))) s.set s.count ≡ false
unfolding crosses_drive
still_clear s x o = ap (λ (b : Bool). b && lift_in s.set s.count) (under_way_kept x s.bits) ∙ o

-- no set, no lift in an area
none_clear : (s : Station) (r : ℕ) → s.count ≡ 0 → crosses_drive r s.set s.count ≡ false
unfolding lift_in some
none_clear s r e = clear_is r s.set s.count (inr (rw e))

-- a step, and what then waits, allowed
fit_ready : (s t : Station) (c : Call) → Step s c t → Ready t → fit s ≡ true → fit t ≡ true
fit_ready s t c (refuses n) q f = f
fit_ready s t c (opens {n} {set} A) q f = fit_opened s n set A
fit_ready s t c (fails {i} w) q f = let F = fit_has s f in fit_answering s i s.bits s.apart f w.1 F.sound F.clear F.within q
fit_ready s t c (succeeds {i} p w a) q f =
    let F = fit_has s f in
    let x = code_at s.set i in
    fit_answering s i (following s i) s.apart f w.1 (next_sound x s.bits F.sound a (crosses_none s.bits s.set s.count F.clear i w.1))
    (still_clear s x F.clear) F.within q
fit_ready s t c (sticks {i} p w) q f = let F = fit_has s f in fit_answering s i s.bits (apart_with s i) f w.1 F.sound F.clear (with_small s i f) q
fit_ready s t c (drives {e} d) q f =
    let F = fit_has s f in
    fit_holding s _ s.apart f (after_sound (read_event e) s.bits F.sound d.3) (clear_is _ s.set s.count (inr d.1)) q F.within
fit_ready s t c tells q f = f

pub fit_step : (s t : Station) (c : Call) → Step s c t → fit s ≡ true → fit t ≡ true
fit_step s t c p f = fit_ready s t c p (ready_step s t c p f) f

-- no set, nothing that waits
none_ready : (s : Station) (r : ℕ) → s.count ≡ 0 → Ready (seeing s r)
unfolding every
none_ready s r e = rw e

-- an image that is taken leaves a fit station
fit_seeing : (s : Station) (r : ℕ) → fit s ≡ true → s.count ≡ 0 → sound r ≡ true → fit (seeing s r) ≡ true
fit_seeing s r f e z = fit_holding s r 0 f z (none_clear s r e) (none_ready s r e) (omega arith)

-- where it begins, it holds no set, and a record of 64 bits
pub begins_has : (s : Station) → Begins s → (fit s ≡ true) × (s.count ≡ 0) × (s.bits < 2 ^ 64)
begins_has s at_start = (fit_start, refl, (omega arith))
begins_has s (by_image before r apart h e) =
    let w = image_has before r apart e in
    let l : station_after before (run.image_call r apart) ≡ seeing before r = ap (λ o. o.station) (image_is before r apart w) in
    rw l (fit_seeing before r w.0 w.1 w.2, w.1, h)

-- every call keeps a station fit, an image too
pub fit_kept : (s : Station) (c : Call) → fit s ≡ true → fit (station_after s c) ≡ true
fit_kept s (run.request n set) f = fit_step s _ _ (steps s (run.request n set) tt) f
fit_kept s (run.reports r) f = fit_step s _ _ (steps s (run.reports r) tt) f
fit_kept s (run.event e) f = fit_step s _ _ (steps s (run.event e) tt) f
fit_kept s run.ask f = fit_step s _ _ (steps s run.ask tt) f
fit_kept s (run.pictures p) f = split (eqb (answer_number s (run.pictures p)) 0)
    (λ t. let w = image_has s p.bits p.apart (eqb-true _ 0 t) in
    rw (ap (λ o. o.station) (image_is s p.bits p.apart w)) (fit_seeing s p.bits f w.1 w.2))
    (λ t. rw (untouched s (run.pictures p) (eqb-false _ 0 t)) f)

pub fit_always : (l : List Call) (s : Station) → fit s ≡ true → fit (calls s l) ≡ true
fit_always [] s f = f
fit_always (c ∷ l) s f = fit_always l (station_after s c) (fit_kept s c f)

pub fit_stays : FitStays
fit_stays s c = split (fit s)
    (λ t. fit_kept s c t ∙ sym t)
    (λ t. ap (λ o. fit o.station) (unfit_is s t c))

pub never_unfit : NeverUnfit
never_unfit s b l = fit_says (calls s l) (fit_always l s (begins_has s b).0)

pub still_allowed : StillAllowed
still_allowed s b l i h m = waits_allowed (calls s l) i (fit_always l s (begins_has s b).0, h, m)

-- ---- of 64 bits

-- its record is
abbrev pub Small : Station → Type 0
Small s = s.bits < 2 ^ 64

after_small : (v : (Option Event)) (r : ℕ) → r < 2 ^ 64 → after_as v r < 2 ^ 64
after_small (Some e) r h = packed_lt 64 0 _
after_small None r h = h

pub small_step : (s t : Station) (c : Call) → Step s c t → Small s → Small t
small_step s t c (refuses n) h = h
small_step s t c (opens A) h = h
small_step s t c (fails {i} w) h = rw (answering_bits s i s.bits s.apart) h
small_step s t c (succeeds {i} p w a) h = rw (answering_bits s i (following s i) s.apart) (packed_lt 64 0 _)
small_step s t c (sticks {i} p w) h = rw (answering_bits s i s.bits (apart_with s i)) h
small_step s t c (drives {e} d) h = after_small (read_event e) s.bits h
small_step s t c tells h = h

-- ---- the cars

-- those of its record
abbrev pub cars_of : Station → ℕ
cars_of s = cars (bit s.bits)

-- a call that is refused drives no car
drove_none : (way : ℕ) (s : Station) (c : Call) → (answer_number s c ≡ 0 → ⊥) → drove way s c ≡ 0
drove_none way s (run.request n set) r = refl
drove_none way s (run.reports x) r = refl
drove_none way s (run.event e) r =
    ap (λ (b : Bool). digit (eqb e 3 && (b && bit s.bits (drive_at way)))) (ne_eqb (answer_number s (run.event e)) 0 r) ∙ ap digit (and-false (eqb e 3))
drove_none way s (run.pictures p) r = refl
drove_none way s run.ask r = refl

-- an event that is taken drives one, where it says that the drive under way is done
drove_one : (way : ℕ) (s : Station) (e : ℕ) → answer_number s (run.event e) ≡ 0 → drove way s (run.event e) ≡ digit (eqb e 3 && bit s.bits (drive_at way))
drove_one way s e z = rw z

counted_step : (s t : Station) (c : Call) → Step s c t → cars_of t + drove 2 s c ≡ cars_of s + drove 1 s c
counted_step s t c (refuses n) = rw (drove_none 2 s c n, drove_none 1 s c n)
counted_step s t c (opens A) = refl
counted_step s t c (fails {i} w) = rw (answering_bits s i s.bits s.apart)
counted_step s t c (sticks {i} p w) = rw (answering_bits s i s.bits (apart_with s i))
counted_step s t c (succeeds {i} p w a) = rw (answering_bits s i (following s i) s.apart) (ap (λ (n : ℕ). n + 0) (next_cars _ s.bits (fit_has s w.0).sound a))
counted_step s t c (drives {e} d) =
    let z : answer_number s (run.event e) ≡ 0 = rw (event_is s e d) in
    rw (drove_one 2 s e z, drove_one 1 s e z) (event_counted e s.bits (read_event e) refl (fit_has s d.0).sound d.3)
counted_step s t c tells = refl

pub counted : (l : List Call) → NoImages l → (s : Station) → cars_of (calls s l) + cars_driven 2 s l ≡ cars_of s + cars_driven 1 s l
counted [] p s = refl
counted (c ∷ l) p s =
    let (a, b) = parts c l p in
    omega (arith, counted_step s (station_after s c) c (steps s c a), counted l b (station_after s c))
