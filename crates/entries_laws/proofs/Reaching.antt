-- Where calls lead: a station that was reached stays so, an image that is taken being a new beginning; it is fit, and its next answer is
-- never 16. And a station as code holds it stays one. Assumes nothing.
use mathlib.Core.Path.{◌≡◌, refl, sym, ap, subst, ◌∙◌}
use mathlib.Core.Bool.{true}
use mathlib.Core.List.{List, [], ◌∷◌, ◌++◌}
use Prim.Native.Nat.{ℕ, ◌*◌, ◌-◌, ◌%◌, ◌≤◌, ◌^◌, ◌<◌}
use native.Mathlib.Omega.{arith}
use borrow.Author.Tests.{eqb-true, eqb-false}
use lib.Bits.{or_lt}
use lib.Dec.{eqb}
use lib.ListN.{length, take, replicate, length-append, length-replicate}
use lib.Seq.{length-take-le}
use Rattle.bits.specs.Bits.{bit}
use Rattle.bits.proofs.Cases.{split}
use Rattle.floor.specs.Sound.{Sound}
use Rattle.answers.specs.declared.Answer.{Answer}
use Rattle.answers.specs.Answers.{number_of}
use Rattle.station.specs.declared.Station.{Station}
use Rattle.station.specs.declared.Outcome.{Outcome}
use Rattle.station.specs.Held.{code_at, held_parts}
use Rattle.station.specs.Station.{start_of, issue_after, fit, apart_with}
use Rattle.station.specs.Calls as station
use Rattle.station_laws.specs.Runs as run
use Rattle.station_laws.specs.Runs.{Call, call, answer_number, station_after, calls, at_start, by_image, NoImages, Reached}
use Rattle.station_laws.proofs.Fits.{fit_start, after_result, parts_small}
use Rattle.station_laws.proofs.Issues.{issues_in_turn}
use Rattle.station_laws.proofs.Calls.{image_has, image_is, following, answering_apart}
use Rattle.station_laws.proofs.EachCall.{untouched, fit_says}
use Rattle.station_laws.proofs.Steps.{Step, refuses, opens, fails, succeeds, sticks, drives, tells, steps, reached}
use Rattle.station_laws.proofs.Always.{begins_has, fit_step, small_step, fit_stays}
use Rattle.station_laws.proofs.Jammed.{always_laid_out}
use Rattle.rooms.specs.Rooms.{returned}
use Rattle.station_c.specs.Entries.{returned_of}
use Rattle.rooms.specs.Promises.{StationTyped}
use Rattle.rooms.proofs.Promises.{returned_reads_back}
use Rattle.entries_laws.specs.Calls as made
use Rattle.entries_laws.specs.Calls.{Heard, makes, reply_to, reply, Sized}
use Rattle.entries_laws.specs.Statements.{StaysReached, ReachedFit}
use Rattle.entries_laws.proofs.Messages.{AsMade, Fine}

-- ---- reached

calls_more : (s : Station) (l : List Call) (c : Call) → calls s (l ++ (c ∷ [])) ≡ station_after (calls s l) c
calls_more s [] c = refl
calls_more s (d ∷ l) c = calls_more (station_after s d) l c

no_images_more : (l : List Call) (c : Call) → NoImages l → NoImages (c ∷ []) → NoImages (l ++ (c ∷ []))
no_images_more [] c p q = q
no_images_more (run.request n set ∷ l) c p q = no_images_more l c p q
no_images_more (run.reports r ∷ l) c p q = no_images_more l c p q
no_images_more (run.event e ∷ l) c p q = no_images_more l c p q
no_images_more (run.pictures x ∷ l) c p q = absurd p
no_images_more (run.ask ∷ l) c p q = no_images_more l c p q

-- a call as code makes it has such an image, and several are one and the rest
pub one_sized : (c : Call) → AsMade c → Sized (c ∷ [])
one_sized (run.request n set) m = tt
one_sized (run.reports r) m = tt
one_sized (run.event e) m = tt
one_sized (run.pictures p) m = (m, tt)
one_sized run.ask m = tt

sized_parts : (c : Call) (l : List Call) → Sized (c ∷ l) → Sized (c ∷ []) × Sized l
sized_parts (run.request n set) l m = (tt, m)
sized_parts (run.reports r) l m = (tt, m)
sized_parts (run.event e) l m = (tt, m)
sized_parts (run.pictures p) l m = ((m.0, tt), m.1)
sized_parts run.ask l m = (tt, m)

module _ (s : Station) (R : Reached s) where
  by_plain : (c : Call) → NoImages (c ∷ []) → Reached (station_after s c)
  by_plain c p = record {
    origin = R.origin;
    begins = R.begins;
    since = R.since ++ (c ∷ []);
    no_images = no_images_more R.since c R.no_images p;
    here = ap (λ (t : Station). station_after t c) R.here ∙ sym (calls_more R.origin R.since c);
  }

  pub reached_call : (c : Call) → Sized (c ∷ []) → Reached (station_after s c)
  reached_call (run.request n set) m = by_plain (run.request n set) tt
  reached_call (run.reports r) m = by_plain (run.reports r) tt
  reached_call (run.event e) m = by_plain (run.event e) tt
  reached_call (run.pictures p) m = split (eqb (answer_number s (run.pictures p)) 0)
      (λ t. record { origin = station_after s (run.pictures p); begins = by_image s p.bits p.apart m.0 (eqb-true _ 0 t); since = []; no_images = tt; here = refl })
      (λ t. subst Reached (sym (untouched s (run.pictures p) (eqb-false _ 0 t))) R)
  reached_call run.ask m = by_plain run.ask tt

  pub reached_reply : (h : Heard) → Fine h → Reached (reply s h).station
  reached_reply (makes c) f = reached_call c (one_sized c f)
  reached_reply (made.refuses a) f = R

pub stays_reached : StaysReached
stays_reached s R [] m = R
stays_reached s R (c ∷ l) m = let (a, b) = sized_parts c l m in stays_reached (station_after s c) (reached_call s R c a) l b

pub start_reached : Reached start_of
start_reached = record { origin = start_of; begins = at_start; since = []; no_images = tt; here = refl }

-- ---- fit and sound

pub reached_fit : ReachedFit
reached_fit s R = reached (λ t. fit t ≡ true) fit_step (λ t b. (begins_has t b).0) s R

pub reached_sound : (s : Station) → Reached s → Sound (bit s.bits)
reached_sound s R = subst (λ (t : Station). Sound (bit t.bits)) (sym R.here) (always_laid_out R.origin R.begins R.since [] tt)

fit_calls : (l : List Call) (s : Station) → fit (calls s l) ≡ fit s
fit_calls [] s = refl
fit_calls (c ∷ l) s = fit_calls l (station_after s c) ∙ fit_stays s c

pub start_fit : (l : List Call) → fit (calls start_of l) ≡ true
start_fit l = fit_calls l start_of ∙ fit_start

-- ---- never 16

-- what is returned of a call's answer as a message is its number and place
pub returned_reply : (s : Station) (c : Call) → returned (call s c).answer ≡ returned_of (reply_to s c)
unfolding station.ask
returned_reply s (run.request n set) = refl
returned_reply s (run.reports r) = refl
returned_reply s (run.event e) = refl
returned_reply s (run.pictures p) = refl
returned_reply s run.ask = split (fit s) (λ t. rw t) (λ t. rw t)

-- a refusal that the reader can give
low : (a : Answer) (n : ℕ) → number_of a ≤ 5 → returned a % 256 ≡ n → n ≤ 5
low a n f e = let b = (returned_reads_back a).0 in omega arith

pub never_so : (s : Station) → Reached s → (h : Heard) → Fine h
    → returned_of (reply s h).answer % 256 ≡ 16 → ⊥
never_so s R (makes c) f z =
    let e : returned_of (reply_to s c) % 256 ≡ answer_number s c = ap (λ (n : ℕ). n % 256) (sym (returned_reply s c)) ∙ (returned_reads_back (call s c).answer).0 in
    fit_says s (reached_fit s R) c (sym e ∙ z)
never_so s R (made.refuses a) f z = let l = low a 16 f z in omega arith

-- ---- as code holds it

places_step : (s t : Station) (c : Call) → Step s c t → AsMade c → length s.set ≡ 40 → length t.set ≡ 40
places_step s t c (refuses n) m h = h
places_step s t c (opens {n} {set} A) m h =
    let k = length-take-le (5 * n) set (m A.orderly.readable.few) in
    let l = A.orderly.readable.few in
    length-append (take (5 * n) set) (replicate (40 - 5 * n) 0) ∙ rw (k, length-replicate {A = ℕ} (40 - 5 * n) 0) (omega arith)
places_step s t c (fails {i} w) m h = after_result (λ (x : Station). length x.set ≡ 40) s i s.bits s.apart (λ _. refl) (λ _. h)
places_step s t c (succeeds {i} p w a) m h = after_result (λ (x : Station). length x.set ≡ 40) s i (following s i) s.apart (λ _. refl) (λ _. h)
places_step s t c (sticks {i} p w) m h = after_result (λ (x : Station). length x.set ≡ 40) s i s.bits (apart_with s i) (λ _. refl) (λ _. h)
places_step s t c (drives d) m h = h
places_step s t c tells m h = h

-- what is set apart stays a number of 64 bits
apart_step : (s t : Station) (c : Call) → Step s c t → s.apart < 2 ^ 64 → t.apart < 2 ^ 64
apart_step s t c (refuses n) h = h
apart_step s t c (opens A) h = h
apart_step s t c (fails {i} w) h = rw (answering_apart s i s.bits s.apart) h
apart_step s t c (succeeds {i} p w a) h = rw (answering_apart s i (following s i) s.apart) h
apart_step s t c (sticks {i} p w) h = rw (answering_apart s i s.bits (apart_with s i))
    (or_lt 64 s.apart (held_parts (code_at s.set i)) h (let l = parts_small (code_at s.set i) in omega arith))
apart_step s t c (drives d) h = h
apart_step s t c tells h = h

module _ (s : Station) (T : StationTyped s) where
  -- the next issue starts over before it needs more bits
  next_small : (c : Call) → (station_after s c).next < 2 ^ 16
  next_small c = let h = T.issue in split (run.opens s c)
      (λ t. let p : (station_after s c).next ≡ issue_after s.next = (issues_in_turn s c).1 ∙ rw t in omega arith)
      (λ t. let p : (station_after s c).next ≡ s.next = (issues_in_turn s c).1 ∙ rw t in omega arith)

  by_step : (c : Call) → NoImages (c ∷ []) → AsMade c → StationTyped (station_after s c)
  by_step c p m =
      let q = steps s c p in
      record {
        image = small_step s (station_after s c) c q T.image;
        places = places_step s
            (station_after s c) c q m T.places;
        issue = next_small c;
        apart = apart_step s (station_after s c) c q T.apart;
      }

  pub typed_call : (c : Call) → AsMade c → StationTyped (station_after s c)
  typed_call (run.request n set) m = by_step (run.request n set) tt m
  typed_call (run.reports r) m = by_step (run.reports r) tt m
  typed_call (run.event e) m = by_step (run.event e) tt m
  typed_call (run.pictures p) m = split (eqb (answer_number s (run.pictures p)) 0)
      (λ t. let w = image_has s p.bits p.apart (eqb-true _ 0 t) in subst StationTyped
      (sym (ap (λ (o : Outcome). o.station) (image_is s p.bits p.apart w)))
      (record { image = m; places = T.places; issue = T.issue; apart = omega arith }))
      (λ t. subst StationTyped (sym (untouched s (run.pictures p) (eqb-false _ 0 t))) T)
  typed_call run.ask m = by_step run.ask tt m

  pub typed_reply : (h : Heard) → Fine h → StationTyped (reply s h).station
  typed_reply (makes c) f = typed_call c f
  typed_reply (made.refuses a) f = T
