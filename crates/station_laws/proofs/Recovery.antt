-- The way back: each result of what waits is accepted, the last of them closes the set, a drive's end is accepted among them, and then an
-- image is. Assumes nothing.
use mathlib.Core.Path.{◌≡◌, refl, sym, ap, subst, ◌∙◌}
use mathlib.Core.Bool.{Bool, true, false, not, ◌||◌}
use mathlib.Core.List.{List, [], ◌∷◌, ◌++◌}
use Prim.Native.Nat.{ℕ, ◌≤◌, ◌<◌}
use native.Mathlib.Omega.{arith}
use lib.Dec.{eqb}
use lib.ListN.{length}
use borrow.Author.Tests.{eqb-true, eq-eqb, not-true}
use Rattle.bits.specs.Bits.{bit, packed}
use Rattle.bits.specs.Search.{some, every, least}
use Rattle.bits.proofs.Cases.{split, clash}
use Rattle.bits.proofs.Search.{every_at, none_is}
use Rattle.floor.specs.Tests.{holds, under_way}
use Rattle.floor.specs.Cars.{cars}
use Rattle.floor.specs.Sound.{Sound, paired, sound}
use Rattle.rules.specs.declared.Event.{Event}
use Rattle.rules.specs.declared.Event.TheVariants.{EndDone, EndNotDone}
use Rattle.rules.specs.Rules.{allowed}
use Rattle.rules.specs.Events.{in_turn, possible, places_open, after_event as event-after}
use Rattle.rules.specs.Verdicts.{verdict_of, code_verdict}
use Rattle.rules.specs.Codes.{event_code, read_code}
use Rattle.answers.specs.Answers.{number_of}
use Rattle.station.specs.declared.Station.{Station}
use Rattle.station.specs.declared.Outcome.{Outcome}
use Rattle.station.specs.Held.{code_at, is_good, held_area, held_allowed, held_parts, parts_in, touches, overlaps_earlier, lift_in, crosses_drive}
use Rattle.station.specs.Station.{start_of, present_issue, fit, marked, closed, answering, seeing, apart_with}
use Rattle.station.specs.Calls.{taken, accepted, spared, cleared, requested, request, occurred, driven, evented, event}
use Rattle.any_order.proofs.Marks.{marks}
use Rattle.station_laws.specs.Runs as run
use Rattle.station_laws.specs.Runs.{Call, call, answer_number, station_after, calls, Begins}
use Rattle.station_laws.specs.Orders.{Fate, fails, succeeds, sticks, fate_number}
use Rattle.station_laws.specs.Jams.{has, Picks}
use Rattle.station_laws.specs.Motion.{AllWaiting}
use Rattle.station_laws.specs.AnswersRight.{Waiting}
use Rattle.station_laws.specs.Recovery.{AllAccepted, results_for, SaidOfDrive, nothing, done, not_done, most_calls, LeadBack, NeverLocksUp, TenAreReached}
use Rattle.station_laws.proofs.Reach.{under_way_kept}
use Rattle.station_laws.proofs.Fits.{fit_has, marks_with, after_result}
use Rattle.station_laws.proofs.Calls.{following, answering_bits, success_is, failure_is, stuck_is}
use Rattle.station_laws.proofs.Always.{begins_has, fit_kept, fit_always}
use Rattle.station_laws.proofs.Drivers.{event_record, end_taken}
use Rattle.station_laws.proofs.Demands.{image_taken}
use Rattle.station_laws.proofs.RecoveryLists.{calls_append, accepted_append, length_append, append_none, results_length, picked_few, unmarked, order_exists}

-- ---- a result of what waits

-- what still waits, in this order, under this issue
record Due (issue : ℕ) (order : List ℕ) (s : Station) : Type 0 where
  fits : fit s ≡ true
  issued : issue ≡ present_issue s
  waits : AllWaiting s order

module _ (s : Station) (i : ℕ) (rest : List ℕ) where
  -- the first of them waits
  first_waits : fit s ≡ true → AllWaiting s (i ∷ rest) → Waiting s i
  first_waits f W =
      let h = W.once.0 in
      (f, h, not-true (marked s i) (sym (W.all i h) ∙ rw (eq-eqb i i refl)))

  -- after its result, whatever the record and what is set apart, the others do
  others_wait : (r apart : ℕ) → AllWaiting s (i ∷ rest)
      → AllWaiting (answering s i r apart) rest × (present_issue (answering s i r apart) ≡ present_issue s)
  others_wait r apart W =
      after_result (λ t. AllWaiting t rest × (present_issue t ≡ present_issue s)) s i r apart
      (λ t. (last rest W.once.1 W.once.2 W.all t, refl))
      (λ t. (record { once = W.once.2; all = more }, refl))
    where
      marked_more : (j : ℕ) → bit (marks_with s i) j ≡ eqb i j || marked s j
      marked_more j = ap (λ (g : ℕ → Bool). g j) (marks s.answered i)

      more : (j : ℕ) → j < s.count → has rest j ≡ not (bit (marks_with s i) j)
      more j h = rw (marked_more j) (split (eqb i j)
          (λ t. rw (t, ← eqb-true i j t) W.once.1)
          (λ t. rw t (rw t at (W.all j h))))

      -- where it was the last, none is left
      last : (l : List ℕ) → has l i ≡ false → Picks s.count l → ((j : ℕ) → j < s.count → has (i ∷ l) j ≡ not (marked s j))
          → every s.count (bit (marks_with s i)) ≡ true → AllWaiting (closed r s.next apart) l
      last [] o p e t = record { once = tt; all = λ j h. absurd (omega arith) }
      last (j ∷ l) o p e t =
          let h = p.0 in
          let m = sym (marked_more j) ∙ every_at s.count (bit (marks_with s i)) t j h in
          split (eqb i j)
          (λ u. clash (rw (eqb-true i j u, eq-eqb j j refl)) o)
          (λ u. clash (rw u at m) (not-true (marked s j) (sym (e j h) ∙ rw (u, eq-eqb j j refl))))

  -- it is accepted, whatever it says, and keeps whether a drive is under way
  record Answered (issue : ℕ) (fate : Fate) : Type 0 where
    bits : ℕ
    apart : ℕ
    is : call s (run.result_call issue i (fate_number fate)) ≡ taken (answering s i bits apart)
    driving : holds under_way (bit bits) ≡ holds under_way (bit s.bits)

  answered : (issue : ℕ) (fate : Fate) → issue ≡ present_issue s → Waiting s i → Answered issue fate
  answered issue fails p w = record { bits = s.bits; apart = s.apart; is = failure_is s issue i p w; driving = refl }
  answered issue succeeds p w =
      let d = under_way_kept (code_at s.set i) s.bits in
      record { bits = following s i; apart = s.apart; is = success_is s issue i p w; driving = d }
  answered issue sticks p w = record { bits = s.bits; apart = apart_with s i; is = stuck_is s issue i p w; driving = refl }

-- ---- results, one after the other

module _ (issue : ℕ) (fate : ℕ → Fate) where
  -- where results lead: each accepted, these still due, and a drive under way if one was
  record Reported (s : Station) (l : List Call) (rest : List ℕ) : Type 0 where
    accepted : AllAccepted s l
    due : Due issue rest (calls s l)
    driving : holds under_way (bit (calls s l).bits) ≡ holds under_way (bit s.bits)

  reported : (order rest : List ℕ) (s : Station) → Due issue (order ++ rest) s → Reported s (results_for issue fate order) rest
  reported [] rest s D = record { accepted = tt; due = D; driving = refl }
  reported (i ∷ order) rest s D =
      let c = run.result_call issue i (fate_number (fate i)) in
      let A = answered s i (order ++ rest) issue (fate i) D.issued (first_waits s i (order ++ rest) D.fits D.waits) in
      let e : station_after s c ≡ answering s i A.bits A.apart = ap (λ (o : Outcome). o.station) A.is in
      let (w, p) = others_wait s i (order ++ rest) A.bits A.apart D.waits in
      let R = reported order rest (station_after s c) record {
        fits = fit_kept s c D.fits;
        issued = D.issued ∙ sym p ∙ ap (λ (t : Station). present_issue t) (sym e);
        waits = subst (λ (t : Station). AllWaiting t (order ++ rest)) (sym e) w;
      } in
      record {
        accepted = (ap (λ (o : Outcome). number_of o.answer) A.is, R.accepted);
        due = R.due;
        driving = R.driving ∙ ap (λ (t : Station). holds under_way (bit t.bits)) e
            ∙ rw (answering_bits s i A.bits A.apart) A.driving;
      }

-- once none is due, no set is outstanding: a fit station's has one that waits
none_due : (issue : ℕ) (s : Station) → Due issue [] s → s.count ≡ 0
none_due issue s D = split (eqb s.count 0)
    (λ t. eqb-true s.count 0 t)
    (λ t. clash (rw t at (fit_has s D.fits).owed) (none_is s.count (λ i. not (marked s i)) (λ i h. sym (D.waits.all i h))))

-- ---- what is said of a drive

module _ (issue : ℕ) (rest : List ℕ) (s : Station) (D : Due issue rest s) where
  -- an end that is accepted leaves what is due
  ended_due : (e : Event) → answer_number s (run.event (event_code e)) ≡ 0 → Due issue rest (station_after s (run.event (event_code e)))
  ended_due e z =
      let is = (event_record s e).1 z in
      record {
        fits = fit_kept s (run.event (event_code e)) D.fits;
        issued = rw is D.issued;
        waits = rw is record { once = D.waits.once; all = D.waits.all };
      }

  -- what may be said is accepted where it is, and leaves what is due
  said_due : (before : Station) (drive : List Call) → SaidOfDrive before drive
      → (holds under_way (bit before.bits) ≡ true → (answer_number s (run.event 3) ≡ 0) × (answer_number s (run.event 4) ≡ 0))
      → AllAccepted s drive × Due issue rest (calls s drive)
  said_due before drive nothing ends = (tt, D)
  said_due before drive (done u) ends = let z = (ends u).0 in ((z, tt), ended_due EndDone z)
  said_due before drive (not_done u) ends = let z = (ends u).1 in ((z, tt), ended_due EndNotDone z)

-- it is one call at most
said_once : (before : Station) (drive : List Call) → SaidOfDrive before drive → length drive ≤ 1
said_once before drive nothing = omega arith
said_once before drive (done u) = omega arith
said_once before drive (not_done u) = omega arith

-- ---- the way back

-- how many calls it is
few_back : (s : Station) (issue : ℕ) (fate : ℕ → Fate) (first rest : List ℕ) (drive : List Call) (r : ℕ)
    → fit s ≡ true → AllWaiting s (first ++ rest) → SaidOfDrive s drive
    → length ((results_for issue fate first ++ (drive ++ results_for issue fate rest)) ++ (run.image_call r 0 ∷ [])) ≤ most_calls
few_back s issue fate first rest drive r f W S =
    let before = results_for issue fate first in
    let after = results_for issue fate rest in
    omega (
      arith,
      length_append (before ++ (drive ++ after)) (run.image_call r 0 ∷ []),
      length_append before (drive ++ after),
      length_append drive after,
      results_length issue fate first,
      results_length issue fate rest,
      length_append first rest,
      picked_few s.count (first ++ rest) W.once,
      (fit_has s f).few,
      said_once s drive S,
    )

module _ (s : Station) (b : Begins s) (l : List Call) where
  abbrev here : Station
  here = calls s l

  here_fits : fit here ≡ true
  here_fits = fit_always l s (begins_has s b).0

  -- an end is accepted after more calls too
  still_ends : (m : List Call) → holds under_way (bit (calls here m).bits) ≡ true
      → (answer_number (calls here m) (run.event 3) ≡ 0) × (answer_number (calls here m) (run.event 4) ≡ 0)
  still_ends m u =
      let e = calls_append l m s in
      subst (λ (t : Station). (answer_number t (run.event 3) ≡ 0) × (answer_number t (run.event 4) ≡ 0)) e
      (end_taken s b (l ++ m) (subst (λ (t : Station). holds under_way (bit t.bits) ≡ true) (sym e) u))

  module _ (first rest : List ℕ) (fate : ℕ → Fate) (drive : List Call) (r : ℕ)
      (W : AllWaiting here (first ++ rest)) (S : SaidOfDrive here drive) (seen : Sound (bit r)) where
    abbrev before : List Call
    before = results_for (present_issue here) fate first

    abbrev after : List Call
    after = results_for (present_issue here) fate rest

    abbrev ends : List Call
    ends = before ++ (drive ++ after)

    -- the results, what is said of the drive, and the other results
    A : Reported (present_issue here) fate here before rest
    A = reported (present_issue here) fate first rest here record { fits = here_fits; issued = refl; waits = W }

    B : AllAccepted (calls here before) drive × Due (present_issue here) rest (calls (calls here before) drive)
    B = said_due (present_issue here) rest (calls here before) A.due here drive S (λ u. still_ends before (A.driving ∙ u))

    C : Reported (present_issue here) fate (calls (calls here before) drive) after []
    C = reported (present_issue here) fate rest [] (calls (calls here before) drive)
        (subst (λ (m : List ℕ). Due (present_issue here) m (calls (calls here before) drive)) (sym (append_none rest)) B.1)

    ends_at : calls here ends ≡ calls (calls (calls here before) drive) after
    ends_at = calls_append before (drive ++ after) here ∙ calls_append drive after (calls here before)

    ends_due : Due (present_issue here) [] (calls here ends)
    ends_due = subst (Due (present_issue here) []) (sym ends_at) C.due

    ends_accepted : AllAccepted here ends
    ends_accepted = accepted_append before (drive ++ after) here A.accepted
        (accepted_append drive after (calls here before) B.0 C.accepted)

    ends_closed : (calls here ends).count ≡ 0
    ends_closed = none_due (present_issue here) (calls here ends) ends_due

    -- the image
    image_accepted : answer_number (calls here ends) (run.image_call r 0) ≡ 0
    image_accepted = (image_taken (calls here ends) r 0).0.1 (ends_due.fits, ends_closed, seen, refl)

    image_leaves : calls here (ends ++ (run.image_call r 0 ∷ [])) ≡ seeing (calls here ends) r
    image_leaves = calls_append ends (run.image_call r 0 ∷ []) here ∙ ((image_taken (calls here ends) r 0).1 image_accepted).0

    lead_back : LeadBack here ends r
    lead_back = record {
      few = few_back here (present_issue here) fate first rest drive r here_fits W S;
      accepted = accepted_append ends (run.image_call r 0 ∷ []) here ends_accepted (image_accepted, tt);
      closed = ends_closed;
      seen = ap (λ (t : Station). t.bits) image_leaves;
      idle = ap (λ (t : Station). t.count) image_leaves ∙ ends_closed;
      none_apart = ap (λ (t : Station). t.apart) image_leaves;
    }

pub never_locks_up : NeverLocksUp
never_locks_up s b l = (
  (unmarked (calls s l).count (marked (calls s l)), order_exists (calls s l)),
  λ first rest fate drive r W S z. lead_back s b l first rest fate drive r W S z,
)

-- ---- ten are reached

-- a drive-in begins, and eight belts move beside it: all those of row 1 but the lift's, the three of row 2, and one of row 3
abbrev busy : List Call
busy =
    run.event 1
    ∷ run.request 8
    (1 ∷ 1 ∷ 1 ∷ 0 ∷ 0 ∷ 1 ∷ 1 ∷ 2 ∷ 0 ∷ 0 ∷ 1 ∷ 1 ∷ 8 ∷ 0 ∷ 0 ∷ 1 ∷ 1 ∷ 16 ∷ 0 ∷ 0
    ∷ 1 ∷ 2 ∷ 1 ∷ 0 ∷ 1 ∷ 1 ∷ 2 ∷ 2 ∷ 0 ∷ 1 ∷ 1 ∷ 2 ∷ 4 ∷ 0 ∷ 1 ∷ 1 ∷ 3 ∷ 2 ∷ 0 ∷ 1 ∷ [])
    ∷ []

pub ten_are_reached : TenAreReached
unfolding unmarked cars paired sound packed some every least read_code allowed verdict_of code_verdict in_turn possible places_open event-after
    code_at is_good held_area held_allowed held_parts parts_in touches overlaps_earlier lift_in crosses_drive fit
    accepted spared cleared requested request occurred driven evented event
ten_are_reached = (busy, unmarked (calls start_of busy).count (marked (calls start_of busy)), order_exists (calls start_of busy), refl, refl)
