-- Each call taken apart: when it is taken, and what it then leaves. A call is one chain of refusals; what is taken has passed each of
-- them, and what is refused leaves the station. Assumes nothing.
use mathlib.Core.Path.{◌≡◌, refl, ap, ◌∙◌}
use mathlib.Core.Logic.{◌⊎◌, inl, inr}
use mathlib.Core.Bool.{Bool, true, false, not, cond, ◌&&◌}
use mathlib.Core.List.{List}
use Prim.Native.Nat.{ℕ, ◌≤◌, ◌<◌}
use native.Mathlib.Omega.{arith}
use lib.Dec.{eqb, ltb}
use borrow.Author.Tests.{ltb-false, lt-ltb, le-ltb, le-leb, eqb-true, eqb-false, eq-eqb, ne_eqb, not-false}
use Rattle.bits.specs.Bits.{Bits, bit, image}
use Rattle.bits.specs.Search.{least}
use Rattle.bits.proofs.Cases.{split, clash, both, and_intro}
use Rattle.bits.proofs.Search.{none_at, none_is}
use Rattle.bits.proofs.Least.{least_none, least_below}
use Rattle.floor.specs.Tests.{holds, all_hold}
use Rattle.floor.specs.Sound.{sound}
use Rattle.rules.specs.declared.Event.{Event}
use Rattle.std.specs.declared.option.Option.{Option}
use Rattle.std.specs.declared.option.Option.TheVariants.{Some, None}
use Rattle.rules.specs.Events.{turn, begin_conditions, in_turn, possible, places_open, after_event}
use Rattle.rules.specs.Codes.{read_event, most_in_set}
use Rattle.answers.specs.declared.Answer.{Answer}
use Rattle.answers.specs.declared.Answer.TheVariants.{BadField, TooMany, SetOutstanding, EmptySet, Overlap, EventImpossible, NoSet, NotInSet, AlreadyAnswered, Unsound, Unfit, Late, NotIssued, OutOfTurn, SetApart, KeptOpen}
use Rattle.answers.specs.Answers.{number_of, nowhere}
use Rattle.station.specs.declared.Station.{Station}
use Rattle.station.specs.declared.Outcome.{Outcome}
use Rattle.station.specs.declared.Report.{Report}
use Rattle.station.specs.Held.{code_at, held_next, held_after, bad, overlaps_earlier, barred, why_not, lift_in, touches, lift_apart, crosses_drive}
use Rattle.station.specs.Station.{in_set, marked, present_issue, behind, late, fit, holding, seeing, answering, apart_with}
use Rattle.station.specs.Calls as station
use Rattle.station.specs.Calls.{refused, taken, on_fit, opening}
use Rattle.station.proofs.Marks.{in_set_lem}
use Rattle.station_laws.specs.Runs as run
use Rattle.station_laws.specs.Runs.{call, answer_number}
use Rattle.station_laws.specs.AnswersRight.{Acceptable, Orderly, Readable, Waiting}
use Rattle.station_laws.proofs.Instance.{on_event, possible_as, open_as, after_as, held_as, reply_as}
use Rattle.station_laws.proofs.Reach.{clear_has, clear_is}
use Rattle.station_laws.proofs.Reasons.{why_number, least_fault}
use Rattle.station_laws.proofs.Fits.{fit_has, after_result, waits_allowed}

-- an outcome that is answered 0
abbrev pub Zero : Outcome → Type 0
Zero o = number_of o.answer ≡ 0

-- ---- past a test

-- what a test leads to
pub either : (P : Outcome → Type 0) (t : Bool) {o p : Outcome} → (t ≡ true → P o) → (t ≡ false → P p) → P (cond t o p)
either P true f g = f refl
either P false f g = g refl

-- whose refusal, where there is one, is no answer 0
passed_where : (t : Bool) (s : Station) (a : Answer) (o : Outcome) → (t ≡ true → number_of a ≡ 0 → ⊥) → Zero (cond t (refused s a) o) → (t ≡ false) × Zero o
passed_where true s a o other e = absurd (other refl e)
passed_where false s a o other e = (refl, e)

passed : (t : Bool) (s : Station) (a : Answer) (o : Outcome) → (number_of a ≡ 0 → ⊥) → Zero (cond t (refused s a) o) → (t ≡ false) × Zero o
passed t s a o other = passed_where t s a o (λ e. other)

-- the same of a test that must pass
met : (t : Bool) (s : Station) (a : Answer) (o : Outcome) → (number_of a ≡ 0 → ⊥) → Zero (cond t o (refused s a)) → (t ≡ true) × Zero o
met true s a o other e = (refl, e)
met false s a o other e = absurd (other e)

-- no instruction is at fault
pub faultless : (n : ℕ) (fault : ℕ → Bool) → ltb (least n fault) n ≡ false → (i : ℕ) → i < n → fault i ≡ false
faultless n fault e i h = let l = ltb-false (least n fault) n e in least_below n fault i (omega arith)

pub no_fault : (n : ℕ) (fault : ℕ → Bool) → ((i : ℕ) → i < n → fault i ≡ false) → ltb (least n fault) n ≡ false
no_fault n fault none = let e = least_none n fault none in le-ltb (least n fault) n (omega arith)

-- a refusal other than 16 and 17
abbrev pub Other : Answer → Type 0
Other a = (number_of a ≡ 0 → ⊥) × (number_of a ≡ 16 → ⊥) × (number_of a ≡ 17 → ⊥)

-- so is why an instruction that is found is not allowed
pub barred_other : (s : Station) (n : ℕ) (set : List ℕ) → ltb (least n (barred set s.bits)) n ≡ true → Other (why_not set s.bits (least n (barred set s.bits)))
barred_other s n set t = go (why_number set s.bits (least n (barred set s.bits)) (least_fault n (barred set s.bits) t).passes)
  where
    go : {k : ℕ} → (k ≡ 4) ⊎ ((20 ≤ k) × (k ≤ 28)) → (k ≡ 0 → ⊥) × (k ≡ 16 → ⊥) × (k ≡ 17 → ⊥)
    go (inl h) = omega arith
    go (inr h) = let l = h.0 in omega arith

-- ---- a request, part by part

module _ (s : Station) (n : ℕ) (set : List ℕ) where
  spared_has : Zero (station.spared s n set) → (ltb (least n (touches set s.apart)) n ≡ false) × Zero (station.accepted s n set)
  unfolding station.spared
  spared_has e = passed (ltb (least n (touches set s.apart)) n) s (SetApart (least n (touches set s.apart))) _ (λ z. omega arith) e

  accepted_has : Zero (station.accepted s n set)
      → (ltb (least n (overlaps_earlier set)) n ≡ false) × (ltb (least n (barred set s.bits)) n ≡ false)
  unfolding station.accepted
  accepted_has e =
      let (a, e₁) = passed (ltb (least n (overlaps_earlier set)) n) s (Overlap (least n (overlaps_earlier set))) _ (λ z. omega arith) e in
      let (b, e₂) = passed_where (ltb (least n (barred set s.bits)) n) s _ _ (λ t. (barred_other s n set t).0) e₁ in
      (a, b)

  requested_has : Zero (station.requested s n set)
      → (ltb 0 s.count ≡ false) × (ltb most_in_set n ≡ false) × (eqb n 0 ≡ false) × (ltb (least n (bad set)) n ≡ false)
      × (crosses_drive s.bits set n ≡ false) × Zero (station.spared s n set)
  unfolding station.requested station.cleared
  requested_has e =
      let (a, e₁) = passed (ltb 0 s.count) s SetOutstanding _ (λ z. omega arith) e in
      let (b, e₂) = passed (ltb most_in_set n) s TooMany _ (λ z. omega arith) e₁ in
      let (c, e₃) = passed (eqb n 0) s EmptySet _ (λ z. omega arith) e₂ in
      let (d, e₄) = passed (ltb (least n (bad set)) n) s (BadField (least n (bad set))) _ (λ z. omega arith) e₃ in
      let (f, e₅) = passed (crosses_drive s.bits set n) s OutOfTurn _ (λ z. omega arith) e₄ in
      (a, b, c, d, f, e₅)

  -- past each test but the last it is orderly
  pub readable_of : fit s ≡ true → ltb 0 s.count ≡ false → ltb most_in_set n ≡ false → eqb n 0 ≡ false → ltb (least n (bad set)) n ≡ false
      → Readable s n set
  readable_of a b c d f =
      record {
        fits = a;
        idle = (let l = ltb-false 0 s.count b in omega arith);
        some = (let l = eqb-false n 0 d in omega arith);
        few = ltb-false most_in_set n c;
        good = λ i l. not-false _ (faultless n (bad set) f i l);
      }

  pub orderly_of : fit s ≡ true → ltb 0 s.count ≡ false → ltb most_in_set n ≡ false → eqb n 0 ≡ false
      → ltb (least n (bad set)) n ≡ false → crosses_drive s.bits set n ≡ false → ltb (least n (touches set s.apart)) n ≡ false
      → ltb (least n (overlaps_earlier set)) n ≡ false → Orderly s n set
  unfolding overlaps_earlier
  orderly_of a b c d f x y g =
      record {
        readable = readable_of a b c d f;
        clear = clear_has s.bits set n x;
        spared = faultless n (touches set s.apart) y;
        apart = λ i j l m. none_at i _ (faultless n (overlaps_earlier set) g i l) j (omega arith);
      }

  pub request_has : answer_number s (run.request n set) ≡ 0 → Acceptable s n set
  unfolding station.request
  request_has e =
      let (a, e₁) = met (fit s) s Unfit (station.requested s n set) (λ z. omega arith) e in
      let (b, c, d, f, x, e₂) = requested_has e₁ in
      let (y, e₃) = spared_has e₂ in
      let (g, h) = accepted_has e₃ in
      record { orderly = orderly_of a b c d f x y g; allowed = λ i l. not-false _ (faultless n (barred set s.bits) h i l) }

  -- no instruction of a readable one is bad, and none of an orderly one overlaps an earlier one
  pub none_bad : Readable s n set → (i : ℕ) → i < n → bad set i ≡ false
  none_bad R i h = rw (R.good i h)

  pub none_overlaps : Orderly s n set → (i : ℕ) → i < n → overlaps_earlier set i ≡ false
  unfolding overlaps_earlier
  none_overlaps O i h = none_is i _ (λ j l. O.apart i j h l)

  -- an orderly one comes to its last test
  module _ (O : Orderly s n set) where
    requested_is : station.requested s n set ≡ station.accepted s n set
    unfolding station.requested station.cleared station.spared
    requested_is = rw (
      le-ltb 0 s.count (let z = O.readable.idle in omega arith),
      le-ltb most_in_set n O.readable.few,
      ne_eqb n 0 (λ z. (let l = O.readable.some in omega arith)),
      no_fault n (bad set) (none_bad O.readable),
      clear_is s.bits set n O.clear,
      no_fault n (touches set s.apart) O.spared,
    )

    pub orderly_is : station.request s n set ≡ station.unless_any n (barred set s.bits) s (why_not set s.bits) (opening s n set)
    unfolding station.request station.accepted
    orderly_is = rw O.readable.fits (requested_is ∙ rw (no_fault n (overlaps_earlier set) (none_overlaps O)))

  pub request_is : Acceptable s n set → station.request s n set ≡ opening s n set
  request_is A = orderly_is A.orderly ∙ rw (no_fault n (barred set s.bits) (λ i h. rw (A.allowed i h)))

-- ---- a result, part by part

module _ (s : Station) (i : ℕ) where
  numbered_has : (ending : ℕ) → Zero (station.numbered s i ending) → (i < s.count) × (marked s i ≡ false)
  unfolding station.numbered
  numbered_has ending e =
      let (a, e₁) = passed (not (in_set s i)) s NotInSet _ (λ z. omega arith) e in
      let (b, e₂) = passed (marked s i) s AlreadyAnswered _ (λ z. omega arith) e₁ in
      ((in_set_lem s i (not-false _ a)).1, b)

  -- a number of a fit station's set
  fit_set : Waiting s i → in_set s i ≡ true
  fit_set w = and_intro (le-leb s.count most_in_set (fit_has s w.0).few) (lt-ltb i s.count w.1)

  numbered_is : (ending : ℕ) → Waiting s i → station.numbered s i ending ≡ station.ended s i ending
  unfolding station.numbered
  numbered_is ending w = rw (fit_set w, w.2)

  -- the record that its rule makes
  abbrev pub following : ℕ
  following = image (held_next (code_at s.set i) (bit s.bits))

  -- it is what a success makes of the record, since what waits is allowed
  after_following : Waiting s i → held_after (code_at s.set i) s.bits ≡ following
  unfolding held_after
  after_following w = rw (waits_allowed s i w)

  -- the record after a result
  pub answering_bits : (r apart : ℕ) → (answering s i r apart).bits ≡ r
  answering_bits r apart = after_result (λ t. t.bits ≡ r) s i r apart (λ t. refl) (λ t. refl)

  -- and what is set apart
  pub answering_apart : (r apart : ℕ) → (answering s i r apart).apart ≡ apart
  answering_apart r apart = after_result (λ t. t.apart ≡ apart) s i r apart (λ t. refl) (λ t. refl)

module _ (s : Station) (r : Report) where
  timely_has : Zero (station.timely s r) → (r.issue ≡ present_issue s) × Zero (station.numbered s r.number r.ending)
  unfolding station.timely
  timely_has e =
      let (a, e₁) = passed (late s r.issue) s Late _ (λ z. omega arith) e in
      let (b, e₂) = met (eqb r.issue (present_issue s)) s NotIssued _ (λ z. omega arith) e₁ in
      (eqb-true _ _ b, e₂)

  -- the present issue is not behind
  timely_is : r.issue ≡ present_issue s → station.timely s r ≡ station.numbered s r.number r.ending
  unfolding station.timely
  timely_is e =
      let none : behind s r.issue ≡ 0 = omega arith in
      rw (none, eq-eqb r.issue (present_issue s) e)

  resulted_has : Zero (station.resulted s r) → (r.ending < 3) × Zero (station.timely s r)
  unfolding station.resulted
  resulted_has e =
      let (a, e₁) = passed (ltb 2 r.ending) s (BadField nowhere) _ (λ z. omega arith) e in
      let (b, e₂) = passed (eqb s.count 0) s NoSet _ (λ z. omega arith) e₁ in
      ((let l = ltb-false 2 r.ending a in omega arith), e₂)

  -- whatever is reported, the instruction waits
  result_has : answer_number s (run.reports r) ≡ 0 → (r.issue ≡ present_issue s) × Waiting s r.number × (r.ending < 3)
  unfolding station.result
  result_has e =
      let (a, e₁) = met (fit s) s Unfit (station.resulted s r) (λ z. omega arith) e in
      let (b, e₂) = resulted_has e₁ in
      let (k, e₃) = timely_has e₂ in
      let (c, d) = numbered_has s r.number r.ending e₃ in
      (k, (a, c, d), b)

  resulted_is : r.ending < 3 → Waiting s r.number → station.resulted s r ≡ station.timely s r
  unfolding station.resulted
  resulted_is b w = let h = w.1 in rw (le-ltb 2 r.ending (omega arith), ne_eqb s.count 0 (λ z. omega arith))

  result_is : r.issue ≡ present_issue s → r.ending < 3 → Waiting s r.number → station.result s r ≡ station.ended s r.number r.ending
  unfolding station.result
  result_is k b w = rw w.0 (resulted_is b w ∙ timely_is k ∙ numbered_is s r.number r.ending w)

  -- no other result is taken
  pub ending_has : answer_number s (run.reports r) ≡ 0 → r.ending < 3
  ending_has e = (result_has e).2

module _ (s : Station) (k i : ℕ) where
  -- a result of this instruction
  abbrev reported : ℕ → Report
  reported ending = record { issue = k; number = i; ending = ending }

  pub success_has : answer_number s (run.result_call k i 1) ≡ 0 → (k ≡ present_issue s) × Waiting s i
  success_has e = let (p, w, b) = result_has s (reported 1) e in (p, w)

  pub success_is : k ≡ present_issue s → Waiting s i → call s (run.result_call k i 1) ≡ taken (answering s i (following s i) s.apart)
  unfolding station.ended
  success_is p w = result_is s (reported 1) p (omega arith) w ∙ ap (λ (r : ℕ). taken (answering s i r s.apart)) (after_following s i w)

  pub failure_has : answer_number s (run.result_call k i 0) ≡ 0 → (k ≡ present_issue s) × Waiting s i
  failure_has e = let (p, w, b) = result_has s (reported 0) e in (p, w)

  pub failure_is : k ≡ present_issue s → Waiting s i → call s (run.result_call k i 0) ≡ taken (answering s i s.bits s.apart)
  unfolding station.ended
  failure_is p w = result_is s (reported 0) p (omega arith) w

  pub stuck_has : answer_number s (run.result_call k i 2) ≡ 0 → (k ≡ present_issue s) × Waiting s i
  stuck_has e = let (p, w, b) = result_has s (reported 2) e in (p, w)

  pub stuck_is : k ≡ present_issue s → Waiting s i → call s (run.result_call k i 2) ≡ taken (answering s i s.bits (apart_with s i))
  unfolding station.ended
  stuck_is p w = result_is s (reported 2) p (omega arith) w

-- ---- a car event, by what its number says

-- one that is possible comes in turn
pub possible_turn : (e : Event) (f : Bits) → possible e f ≡ true → in_turn e f ≡ true
unfolding possible in_turn
possible_turn e f p = (both (holds (turn e) f) (all_hold (begin_conditions e) f) p).0

module _ (s : Station) where
  -- what the station makes of it
  abbrev pub driven_as : (Option Event) → Outcome
  driven_as v = on_fit s (on_event (station.driven s) (refused s (BadField nowhere)) v)

  pub event_as : (e : ℕ) → station.event s e ≡ driven_as (read_event e)
  unfolding station.event station.evented read_event
  event_as e =
      split (eqb e 1) (λ t. rw t)
      (λ t. rw t (split (eqb e 2) (λ u. rw u)
      (λ u. rw u (split (eqb e 3) (λ v. rw v)
      (λ v. rw v (split (eqb e 4) (λ w. rw w) (λ w. rw w)))))))

  -- what a car event must have
  abbrev pub Drivable : (Option Event) → Type 0
  Drivable v =
      (fit s ≡ true) × (lift_in s.set s.count ≡ false) × (lift_apart s.apart ≡ false) × (possible_as v s.bits ≡ true)
      × (open_as v s.bits ≡ true)

  driven_has : (v : (Option Event)) → Zero (driven_as v) → Drivable v
  unfolding station.driven station.occurred
  driven_has (Some e) z =
      let (a, z₁) = met (fit s) s Unfit (station.driven s e) (λ z. omega arith) z in
      let (b, z₂) = passed (lift_in s.set s.count) s SetOutstanding _ (λ z. omega arith) z₁ in
      let (t, z₃) = met (in_turn e (bit s.bits)) s OutOfTurn _ (λ z. omega arith) z₂ in
      let (l, z₄) = passed (lift_apart s.apart) s (SetApart nowhere) _ (λ z. omega arith) z₃ in
      let (c, z₅) = met (possible e (bit s.bits)) s EventImpossible _ (λ z. omega arith) z₄ in
      let (o, z₆) = met (places_open e (bit s.bits)) s KeptOpen (taken (holding s (image (after_event e (bit s.bits))))) (λ z. omega arith) z₅ in
      (a, b, l, c, o)
  driven_has None z = let (a, z₁) = met (fit s) s Unfit (refused s (BadField nowhere)) (λ z. omega arith) z in absurd (omega arith)

  driven_is : (v : (Option Event)) → Drivable v → driven_as v ≡ taken (holding s (after_as v s.bits))
  unfolding station.driven station.occurred
  driven_is (Some e) d = rw (d.0, d.1, possible_turn e (bit s.bits) d.3, d.2, d.3, d.4)
  driven_is None d = clash d.3 refl

  driven_number : (v : (Option Event)) → fit s ≡ true → number_of (driven_as v).answer ≡ cond (lift_in s.set s.count) (held_as v) (reply_as v (lift_apart s.apart) s.bits)
  unfolding station.driven station.occurred
  driven_number (Some e) f =
      rw f (split (lift_in s.set s.count) (λ t. rw t)
      (λ t. rw t (split (in_turn e (bit s.bits))
      (λ v. rw v (split (lift_apart s.apart) (λ l. rw l) (λ l. rw l (split (possible e (bit s.bits))
      (λ u. rw u (split (places_open e (bit s.bits)) (λ o. rw o) (λ o. rw o))) (λ u. rw u)))))
      (λ v. rw v))))
  driven_number None f = rw f (split (lift_in s.set s.count) (λ t. rw t) (λ t. rw t))

  module _ (e : ℕ) where
    pub event_has : answer_number s (run.event e) ≡ 0 → Drivable (read_event e)
    event_has z = driven_has (read_event e) (rw (event_as e) at z)

    pub event_is : Drivable (read_event e) → station.event s e ≡ taken (holding s (after_as (read_event e) s.bits))
    event_is d = event_as e ∙ driven_is (read_event e) d

    pub event_number : fit s ≡ true → answer_number s (run.event e) ≡ cond (lift_in s.set s.count) (held_as (read_event e)) (reply_as (read_event e) (lift_apart s.apart) s.bits)
    event_number f = ap (λ (o : Outcome). number_of o.answer) (event_as e) ∙ driven_number (read_event e) f

-- ---- an image

pub image_has : (s : Station) (r apart : ℕ) → answer_number s (run.image_call r apart) ≡ 0 → (fit s ≡ true) × (s.count ≡ 0) × (sound r ≡ true) × (apart ≡ 0)
unfolding station.take_image station.imaged
image_has s r apart e =
    let (a, e₁) = met (fit s) s Unfit _ (λ z. omega arith) e in
    let (b, e₂) = passed (ltb 0 s.count) s SetOutstanding _ (λ z. omega arith) e₁ in
    let (c, e₃) = met (sound r && eqb apart 0) s Unsound (taken (seeing s r)) (λ z. omega arith) e₂ in
    let (d, z) = both (sound r) (eqb apart 0) c in
    (a, (let l = ltb-false 0 s.count b in omega arith), d, eqb-true apart 0 z)

pub image_is : (s : Station) (r apart : ℕ) → (fit s ≡ true) × (s.count ≡ 0) × (sound r ≡ true) × (apart ≡ 0) → call s (run.image_call r apart) ≡ taken (seeing s r)
unfolding station.take_image station.imaged
image_is s r apart w = rw (w.0, le-ltb 0 s.count (let z = w.1 in omega arith), w.2, eq-eqb apart 0 w.3)

-- ---- an ask

pub ask_has : (s : Station) → answer_number s run.ask ≡ 0 → fit s ≡ true
unfolding station.ask
ask_has s e = (met (fit s) s Unfit (taken s) (λ z. omega arith) e).0

pub ask_is : (s : Station) → fit s ≡ true → station.ask s ≡ taken s
unfolding station.ask
ask_is s f = rw f
