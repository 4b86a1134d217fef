-- Drives: which events and requests are refused for one, that its end is always taken, and that nobody moves the lift under a driver.
-- Assumes nothing.
use mathlib.Core.Path.{◌≡◌, refl, sym, ap, subst, ◌∙◌}
use mathlib.Core.Logic.{◌⊎◌, inl, inr, ⊎_elim}
use mathlib.Core.Bool.{Bool, true, false, cond, or-false}
use mathlib.Core.List.{List, [], ◌∷◌}
use Prim.Native.Nat.{ℕ, ◌≤◌, ◌<◌}
use native.Mathlib.Omega.{arith}
use lib.Dec.{eqb, ltb}
use borrow.Author.Tests.{eqb-true, eqb-false, le-ltb, ne_eqb}
use Rattle.bits.specs.Bits.{Bits, bit, image}
use Rattle.bits.specs.Places.{elem, share}
use Rattle.bits.specs.Search.{least}
use Rattle.bits.proofs.Cases.{split, clash, both, off}
use Rattle.bits.proofs.Digits.{bit_image, bit_none}
use Rattle.bits.proofs.Operations.{bit_or_lem}
use Rattle.bits.proofs.Sharing.{are_small, share_is}
use Rattle.floor.specs.Floor.{lift, drive_in, drive_out, drives as drivePlaces}
use Rattle.floor.specs.Tests.{holds, under_way}
use Rattle.rules.specs.declared.Event.{Event}
use Rattle.rules.specs.declared.Event.TheVariants.{BeginIn, BeginOut, EndDone, EndNotDone}
use Rattle.std.specs.declared.option.Option.{Option}
use Rattle.std.specs.declared.option.Option.TheVariants.{Some, None}
use Rattle.rules.specs.Events.{in_turn, possible, places_open, after_event}
use Rattle.rules.specs.Codes.{read_event, event_code, most_in_set}
use Rattle.rules.proofs.CodeLaws.{event_reads_back, event_one_form}
use Rattle.answers.specs.declared.Answer.TheVariants.{OutOfTurn}
use Rattle.answers.specs.Answers.{number_of}
use Rattle.station.specs.declared.Station.{Station}
use Rattle.station.specs.declared.Outcome.{Outcome}
use Rattle.station.specs.Held.{code_at, held_area, held_parts, held_next, bad, overlaps_earlier, barred, why_not, lift_in, touches, lift_apart, crosses_drive, crosses}
use Rattle.station.specs.Station.{fit, holding, apart_with}
use Rattle.station.specs.Calls as station
use Rattle.station_laws.specs.Runs as run
use Rattle.station_laws.specs.Runs.{Call, answer_number, station_after, calls, Begins, at_start, by_image, NoImages, drive_at}
use Rattle.station_laws.specs.AnswersRight.{EventRecord, EventRefused, Readable, LiftRefused, EndTaken, Unended, NobodyMovesTheLift, LiftHeldSinceBegin}
use Rattle.station_laws.proofs.Reach.{drive_outside, held_outside, under_way_kept, crosses_none}
use Rattle.station_laws.proofs.Apart.{part_lift}
use Rattle.station_laws.proofs.Instance.{possible_as, held_as, reply_as, after_as}
use Rattle.station_laws.proofs.Fits.{fit_has}
use Rattle.station_laws.proofs.Reasons.{why_number, least_fault}
use Rattle.station_laws.proofs.Calls.{either, no_fault, possible_turn, following, Drivable, answering_bits, answering_apart, event_has, event_is, event_number, image_has, image_is, readable_of, none_bad}
use Rattle.station_laws.proofs.EachCall.{unfit_is, untouched}
use Rattle.station_laws.proofs.Steps.{Step, refuses, opens, fails, succeeds, sticks, drives, tells, steps, parts}
use Rattle.station_laws.proofs.Always.{begins_has, fit_kept, fit_always}

-- the number and the station of an outcome
abbrev number : Outcome → ℕ
number o = number_of o.answer

abbrev rest : Outcome → Station
rest o = o.station

-- ---- events that are taken

pub event_record : EventRecord
event_record s e =
    let r = event_reads_back e in (
      (λ z. subst (Drivable s) r (event_has s (event_code e) z), λ d. ap number (event_is s (event_code e) (rw r d))),
      λ z. ap rest (event_is s (event_code e) (event_has s (event_code e) z)) ∙ ap (λ (v : (Option Event)). holding s (after_as v s.bits)) r,
    )

-- ---- events that are refused

-- a call that is answered so is on a fit station
fit_from : (s : Station) (c : Call) (k : ℕ) → answer_number s c ≡ k → (k ≡ 16 → ⊥) → fit s ≡ true
fit_from s c k e other = split (fit s) (λ f. f) (λ f. absurd (other (sym e ∙ ap number (unfit_is s f c))))

-- what a fit station answers: by whether its set has the lift in an area, the event comes in turn, a part of the lift is set apart, it is
-- possible, and leaves the places open that are kept so
abbrev reply : Bool → Bool → Bool → Bool → Bool → ℕ
reply b t l p o = cond b 6 (cond t (cond l 32 (cond p (cond o 0 33) 10)) 31)

turn_by : (b t l p o : Bool) → reply b t l p o ≡ 31 → (b ≡ false) × (t ≡ false)
turn_by true t l p o e = absurd (omega arith)
turn_by false true true p o e = absurd (omega arith)
turn_by false true false true true e = absurd (omega arith)
turn_by false true false true false e = absurd (omega arith)
turn_by false true false false o e = absurd (omega arith)
turn_by false false l p o e = (refl, refl)

apart_by : (b t l p o : Bool) → reply b t l p o ≡ 32 → (b ≡ false) × (t ≡ true) × (l ≡ true)
apart_by true t l p o e = absurd (omega arith)
apart_by false true true p o e = (refl, refl, refl)
apart_by false true false true true e = absurd (omega arith)
apart_by false true false true false e = absurd (omega arith)
apart_by false true false false o e = absurd (omega arith)
apart_by false false l p o e = absurd (omega arith)

own_by : (b t l p o : Bool) → reply b t l p o ≡ 10 → (b ≡ false) × (t ≡ true) × (l ≡ false) × (p ≡ false)
own_by true t l p o e = absurd (omega arith)
own_by false true true p o e = absurd (omega arith)
own_by false true false true true e = absurd (omega arith)
own_by false true false true false e = absurd (omega arith)
own_by false true false false o e = (refl, refl, refl, refl)
own_by false false l p o e = absurd (omega arith)

open_by : (b t l p o : Bool) → reply b t l p o ≡ 33 → (b ≡ false) × (l ≡ false) × (p ≡ true) × (o ≡ false)
open_by true t l p o e = absurd (omega arith)
open_by false true true p o e = absurd (omega arith)
open_by false true false true true e = absurd (omega arith)
open_by false true false true false e = (refl, refl, refl, refl)
open_by false true false false o e = absurd (omega arith)
open_by false false l p o e = absurd (omega arith)

module _ (s : Station) (e : Event) where
  abbrev blocked : Bool
  blocked = lift_in s.set s.count

  abbrev due : Bool
  due = in_turn e (bit s.bits)

  abbrev lost : Bool
  lost = lift_apart s.apart

  abbrev can : Bool
  can = possible e (bit s.bits)

  abbrev room : Bool
  room = places_open e (bit s.bits)

  event_told : fit s ≡ true → answer_number s (run.event (event_code e)) ≡ reply blocked due lost can room
  event_told f = event_number s (event_code e) f ∙ ap (λ (v : (Option Event)). cond blocked (held_as v) (reply_as v lost s.bits)) (event_reads_back e)

  -- an answer with this number is a fit station's
  told_so : (k : ℕ) → answer_number s (run.event (event_code e)) ≡ k → (k ≡ 16 → ⊥) → (fit s ≡ true) × (reply blocked due lost can room ≡ k)
  told_so k z other = let f = fit_from s (run.event (event_code e)) k z other in (f, sym (event_told f) ∙ z)

pub event_refused : EventRefused
event_refused s e = (
  (
    λ z. let (f, q) = told_so s e 31 z (λ k. omega arith) in let (b, t) = turn_by (blocked s e) (due s e) (lost s e) (can s e) (room s e) q in (f, b, t),
    λ h. event_told s e h.0 ∙ rw (h.1, h.2),
  ),
  (
    λ z. let (f, q) = told_so s e 32 z (λ k. omega arith) in let (b, t, l) = apart_by (blocked s e) (due s e) (lost s e) (can s e) (room s e) q in (f, b, t, l),
    λ h. event_told s e h.0 ∙ rw (h.1, h.2, h.3),
  ),
  (
    λ z. let (f, q) = told_so s e 10 z (λ k. omega arith) in let (b, t, l, p) = own_by (blocked s e) (due s e) (lost s e) (can s e) (room s e) q in (f, b, t, l, p),
    λ h. event_told s e h.0 ∙ rw (h.1, h.2, h.3, h.4),
  ),
  (
    λ z. let (f, q) = told_so s e 33 z (λ k. omega arith) in let (b, l, p, o) = open_by (blocked s e) (due s e) (lost s e) (can s e) (room s e) q in (f, b, l, p, o),
    λ h. event_told s e h.0 ∙ rw (h.1, possible_turn e (bit s.bits) h.3, h.2, h.3, h.4),
  ),
)

-- ---- requests that are

module _ (s : Station) (n : ℕ) (set : List ℕ) where
  -- what is refused so
  record Held : Type 0 where
    readable : Readable s n set
    driving : holds under_way (bit s.bits) ≡ true
    lifted : lift_in set n ≡ true

  -- an outcome that is told 31
  record Said (o : Outcome) : Type 0 where
    then : number_of o.answer ≡ 31 → Held

  other : {o : Outcome} → (number_of o.answer ≡ 31 → ⊥) → Said o
  other unlike = record { then = λ e. absurd (unlike e) }

  -- no reason has that number
  why_other : ltb (least n (barred set s.bits)) n ≡ true → number_of (why_not set s.bits (least n (barred set s.bits))) ≡ 31 → ⊥
  why_other t = go (why_number set s.bits (least n (barred set s.bits)) (least_fault n (barred set s.bits) t).passes)
    where
      go : {k : ℕ} → (k ≡ 4) ⊎ ((20 ≤ k) × (k ≤ 28)) → k ≡ 31 → ⊥
      go (inl h) z = omega arith
      go (inr h) z = omega (arith, h.1)

  request_said : Said (station.request s n set)
  unfolding station.request station.requested station.cleared station.spared station.accepted crosses_drive
  request_said =
      either Said (fit s) (λ a.
      either Said (ltb 0 s.count) (λ t. other (λ z. omega arith)) (λ b.
      either Said (ltb most_in_set n) (λ t. other (λ z. omega arith)) (λ c.
      either Said (eqb n 0) (λ t. other (λ z. omega arith)) (λ d.
      either Said (ltb (least n (bad set)) n) (λ t. other (λ z. omega arith)) (λ f.
      either Said (crosses_drive s.bits set n)
      (λ x. let (u, l) = both (holds under_way (bit s.bits)) (lift_in set n) x in
      record {
        then = λ z. record {
          readable = readable_of s n set a b c d f;
          driving = u;
          lifted = l;
        };
      }) (λ x.
      either Said (ltb (least n (touches set s.apart)) n) (λ t. other (λ z. omega arith)) (λ y.
      either Said (ltb (least n (overlaps_earlier set)) n) (λ t. other (λ z. omega arith)) (λ g.
      either Said (ltb (least n (barred set s.bits)) n) (λ t. other (why_other t)) (λ h.
      other (λ z. omega arith)))))))))) (λ a. other (λ z. omega arith))

  request_crosses : Readable s n set → holds under_way (bit s.bits) ≡ true → lift_in set n ≡ true → station.request s n set ≡ station.refused s OutOfTurn
  unfolding station.request station.requested station.cleared crosses_drive
  request_crosses R u l = rw (
    R.fits,
    le-ltb 0 s.count (let z = R.idle in omega arith),
    le-ltb most_in_set n R.few,
    ne_eqb n 0 (λ z. (let l = R.some in omega arith)),
    no_fault n (bad set) (none_bad s n set R),
    u,
    l,
  )

pub lift_refused : LiftRefused
lift_refused s n set = (
  λ z. let H = (request_said s n set).then z in (H.readable, H.driving, H.lifted),
  λ h. ap number (request_crosses s n set h.0 h.1 h.2),
)

-- ---- an end is taken

-- while a drive is under way, no part of the lift is set apart
abbrev Free : Station → Type 0
Free s = holds under_way (bit s.bits) ≡ true → lift_apart s.apart ≡ false

-- a record with the same drives, and the same bit of the lift
free_as : (s t : Station) → holds under_way (bit t.bits) ≡ holds under_way (bit s.bits) → (holds under_way (bit s.bits) ≡ true → lift_apart t.apart ≡ lift_apart s.apart)
    → Free s → Free t
free_as s t e d F u = let v = sym e ∙ u in d v ∙ F v

-- an instruction that is stuck beside a drive sets no part of the lift apart
beside_drive : (s : Station) (i : ℕ) → fit s ≡ true → i < s.count → holds under_way (bit s.bits) ≡ true → lift_apart (apart_with s i) ≡ lift_apart s.apart
unfolding crosses
beside_drive s i f h u =
    let o : share (held_area (code_at s.set i)) lift ≡ false = rw u at (crosses_none s.bits s.set s.count (fit_has s f).clear i h) in
    bit_or_lem s.apart (held_parts (code_at s.set i)) 52 ∙ rw (part_lift (code_at s.set i), o) (or-false (bit s.apart 52))

free_step : (s t : Station) (c : Call) → Step s c t → fit s ≡ true → Free s → Free t
free_step s t c (refuses n) f F = F
free_step s t c (opens A) f F = F
free_step s t c (fails {i} w) f F =
    free_as s t (ap (λ (r : ℕ). holds under_way (bit r)) (answering_bits s i _ _)) (λ u. ap lift_apart (answering_apart s i _ _)) F
free_step s t c (succeeds {i} p w a) f F =
    free_as s t (ap (λ (r : ℕ). holds under_way (bit r)) (answering_bits s i _ _) ∙ under_way_kept (code_at s.set i) s.bits) (λ u. ap lift_apart (answering_apart s i _ _)) F
free_step s t c (sticks {i} p w) f F =
    free_as s t (ap (λ (r : ℕ). holds under_way (bit r)) (answering_bits s i _ _)) (λ u. ap lift_apart (answering_apart s i _ _) ∙ beside_drive s i f w.1 u) F
free_step s t c (drives d) f F = λ u. d.2
free_step s t c tells f F = F

free_call : (s : Station) (c : Call) → fit s ≡ true → Free s → Free (station_after s c)
free_call s (run.request n set) f F = free_step s _ _ (steps s (run.request n set) tt) f F
free_call s (run.reports r) f F = free_step s _ _ (steps s (run.reports r) tt) f F
free_call s (run.event e) f F = free_step s _ _ (steps s (run.event e) tt) f F
free_call s run.ask f F = free_step s _ _ (steps s run.ask tt) f F
free_call s (run.pictures p) f F = split (eqb (answer_number s (run.pictures p)) 0)
    (λ t. rw (ap (λ o. o.station) (image_is s p.bits p.apart (image_has s p.bits p.apart (eqb-true _ 0 t)))) (λ u. bit_none 52))
    (λ t. rw (untouched s (run.pictures p) (eqb-false _ 0 t)) F)

free_always : (l : List Call) (s : Station) → fit s ≡ true → Free s → Free (calls s l)
free_always [] s f F = F
free_always (c ∷ l) s f F = free_always l (station_after s c) (fit_kept s c f) (free_call s c f F)

free_begins : (s : Station) → Begins s → Free s
free_begins s at_start = λ u. bit_none 52
free_begins s (by_image before r apart h e) = rw (ap (λ o. o.station) (image_is before r apart (image_has before r apart e))) (λ u. bit_none 52)

module _ (s : Station) (f : fit s ≡ true) (u : holds under_way (bit s.bits) ≡ true) (free : lift_apart s.apart ≡ false) where
  -- while a drive is under way, no instruction of the set has the lift in its area
  lift_free : lift_in s.set s.count ≡ false
  unfolding crosses_drive
  lift_free = rw u at (fit_has s f).clear

  pub done_taken : answer_number s (run.event 3) ≡ 0
  unfolding in_turn possible places_open
  done_taken = event_told s EndDone f ∙ rw (lift_free, u, free)

  pub not_done_taken : answer_number s (run.event 4) ≡ 0
  unfolding in_turn possible places_open
  not_done_taken = event_told s EndNotDone f ∙ rw (lift_free, u, free)

pub end_taken : EndTaken
end_taken s b l u =
    let f = fit_always l s (begins_has s b).0 in
    let free = free_always l s (begins_has s b).0 (free_begins s b) u in
    (done_taken (calls s l) f u free, not_done_taken (calls s l) f u free)

-- ---- nobody moves the lift

-- two records that agree on the drives agree on whether one is under way
same_drives : (f g : Bits) → ((k : ℕ) → elem k drivePlaces ≡ true → f k ≡ g k) → holds under_way f ≡ holds under_way g
same_drives f g e = rw (e drive_in refl, e drive_out refl)

-- as it was before: the lift's bits, and the drive's; one is under way
module _ (before : Station) (along : holds under_way (bit before.bits) ≡ true) where
  record Still (r : ℕ) : Type 0 where
    lifted : (k : ℕ) → elem k lift ≡ true → bit r k ≡ bit before.bits k
    driving : (k : ℕ) → elem k drivePlaces ≡ true → bit r k ≡ bit before.bits k

  still_under_way : {r : ℕ} → Still r → holds under_way (bit r) ≡ true
  still_under_way {r} S = same_drives (bit r) (bit before.bits) S.driving ∙ along

  -- a success beside it touches neither
  still_following : (s : Station) (i : ℕ) → share (held_area (code_at s.set i)) lift ≡ false → Still s.bits → Still (following s i)
  still_following s i o S =
      let x = code_at s.set i in
      record {
        lifted = λ k m.
            bit_image (held_next x (bit s.bits)) k (are_small lift tt k m)
            ∙ held_outside x s.bits k (off _ (λ e. clash (share_is (held_area x) lift k e m) o)) ∙ S.lifted k m;
        driving = λ k m.
            bit_image (held_next x (bit s.bits)) k (are_small drivePlaces tt k m)
            ∙ held_outside x s.bits k (drive_outside x k m) ∙ S.driving k m;
      }

  still_step : (s t : Station) (c : Call) → Step s c t → ((c ≡ run.event 3) ⊎ (c ≡ run.event 4) → answer_number s c ≡ 0 → ⊥)
      → Still s.bits → Still t.bits
  unfolding in_turn crosses
  still_step s t c (refuses x) q S = S
  still_step s t c (opens A) q S = S
  still_step s t c (fails {i} x) q S = rw (answering_bits s i s.bits s.apart) S
  still_step s t c (succeeds {i} p x a) q S =
      let o : share (held_area (code_at s.set i)) lift ≡ false =
      rw (still_under_way S) at (crosses_none s.bits s.set s.count (fit_has s x.0).clear i x.1) in
      rw (answering_bits s i (following s i) s.apart) (still_following s i o S)
  still_step s t c (sticks {i} p x) q S = rw (answering_bits s i s.bits (apart_with s i)) S
  still_step s t c (drives {e} d) q S = absurd (unending (read_event e) refl d.3)
    where
      zero : answer_number s (run.event e) ≡ 0
      zero = rw (event_is s e d)

      -- a begin does not come in turn, an end is one that was ruled out
      unending : (v : (Option Event)) → read_event e ≡ v → possible_as v s.bits ≡ true → ⊥
      unending (Some BeginIn) p t = clash (possible_turn BeginIn (bit s.bits) t) (rw (still_under_way S))
      unending (Some BeginOut) p t = clash (possible_turn BeginOut (bit s.bits) t) (rw (still_under_way S))
      unending (Some EndDone) p t = q (inl (ap run.event (event_one_form e EndDone p))) zero
      unending (Some EndNotDone) p t = q (inr (ap run.event (event_one_form e EndNotDone p))) zero
      unending None p t = clash t refl
  still_step s t c tells q S = S

  still_along : (l : List Call) (s : Station) → NoImages l → Unended s l → Still s.bits → Still (calls s l).bits
  still_along [] s p q S = S
  still_along (c ∷ l) s p q S =
      let (a, b) = parts c l p in
      still_along l (station_after s c) b q.1 (still_step s (station_after s c) c (steps s c a) q.0 S)

  still_here : Still before.bits
  still_here = record { lifted = λ k m. refl; driving = λ k m. refl }

pub nobody_moves_the_lift : NobodyMovesTheLift
nobody_moves_the_lift s u l p q = let S = still_along s u l s p q (still_here s u) in (S.lifted, S.driving, still_under_way s u S)

-- ---- from a begin on

-- a drive whose bit is set is under way
under_way_in : (f : Bits) (way : ℕ) → (way ≡ 1) ⊎ (way ≡ 2) → f (drive_at way) ≡ true → holds under_way f ≡ true
under_way_in f way (inl w) e = let h : f drive_in ≡ true = rw w at e in split (f drive_out) (λ t. rw (h, t)) (λ t. rw (h, t))
under_way_in f way (inr w) e = let h : f drive_out ≡ true = rw w at e in split (f drive_in) (λ t. rw (t, h)) (λ t. rw (t, h))

-- its bit is one of the drives'
drive_place : (way : ℕ) → (way ≡ 1) ⊎ (way ≡ 2) → elem (drive_at way) drivePlaces ≡ true
drive_place way = ⊎_elim (λ e. rw e) (λ e. rw e)

lift_beside : (j k : ℕ) → elem j lift ≡ false → elem k lift ≡ true → eqb j k ≡ false
lift_beside j k o m = off (eqb j k) (λ e. clash (rw (← eqb-true j k e) at m) o)

-- a begin leaves the lift's bits, and sets its own
begin_still : (s : Station) (way : ℕ) → (way ≡ 1) ⊎ (way ≡ 2) → answer_number s (run.event way) ≡ 0
    → ((k : ℕ) → elem k lift ≡ true → bit (station_after s (run.event way)).bits k ≡ bit s.bits k)
    × (bit (station_after s (run.event way)).bits (drive_at way) ≡ true)
unfolding after_event
begin_still s way (inl w) z =
    let e : station_after s (run.event way) ≡ holding s (image (after_event BeginIn (bit s.bits))) = rw w ((event_record s BeginIn).1 (rw w at z)) in
    rw (e, w) (
      (λ k m. bit_image (after_event BeginIn (bit s.bits)) k (are_small lift tt k m) ∙ rw
          (lift_beside drive_in k refl m)),
      bit_image (after_event BeginIn (bit s.bits)) drive_in (omega arith),
    )
begin_still s way (inr w) z =
    let e : station_after s (run.event way) ≡ holding s (image (after_event BeginOut (bit s.bits))) = rw w ((event_record s BeginOut).1 (rw w at z)) in
    rw (e, w) (
      (λ k m. bit_image (after_event BeginOut (bit s.bits)) k (are_small lift tt k m) ∙ rw
          (lift_beside drive_out k refl m)),
      bit_image (after_event BeginOut (bit s.bits)) drive_out (omega arith),
    )

pub lift_held_since_begin : LiftHeldSinceBegin
lift_held_since_begin s way w z l p q =
    let t = station_after s (run.event way) in
    let (a, b) = begin_still s way w z in
    let (c, d, e) = nobody_moves_the_lift t (under_way_in (bit t.bits) way w b) l p q in
    ((λ k m. c k m ∙ a k m), d (drive_at way) (drive_place way w) ∙ b)
