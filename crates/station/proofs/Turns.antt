-- A call's turn and the set that it leaves are its outcome: call by call, what becomes of the set. Assumes nothing.
use Rattle.std.proofs.Common.{◌≡◌, ℕ, ◌-◌, ◌*◌, ◌^◌, ◌<◌, Bool, true, false, cond, not, ◌&&◌, eqb, ltb, List, ◌++◌, take, replicate, sym, refl, ap, ◌∙◌, arith, ltb-false, le-ltb, lt-ltb}
use lib.Bits.{bit_or}
use borrow.Author.Tests.{eqb-false, not-false}
use Rattle.bits.specs.Bits.{bit}
use Rattle.bits.specs.Search.{every, least}
use Rattle.bits.proofs.Cases.{split}
use Rattle.floor.specs.Sound.{sound}
use Rattle.rules.specs.declared.Event.{Event}
use Rattle.rules.specs.declared.Event.TheVariants.{BeginIn, BeginOut, EndDone, EndNotDone}
use Rattle.rules.specs.Events.{in_turn, possible, places_open}
use Rattle.rules.specs.Codes.{most_in_set}
use Rattle.answers.specs.declared.Answer.{Answer}
use Rattle.station.specs.declared.Station.{Station}
use Rattle.station.specs.declared.Outcome.{Outcome}
use Rattle.station.specs.declared.Report.{Report}
use Rattle.station.specs.declared.Picture.{Picture}
use Rattle.station.specs.declared.Turn.{Turn}
use Rattle.station.specs.Held.{lift_apart, touches, bad, overlaps_earlier, barred, lift_in, crosses_drive}
use Rattle.station.specs.Station.{in_set, marked, present_issue, late, noting, answering}
use Rattle.station.specs.Calls.{refused, taken, accepted, spared, cleared, requested, occurred, driven, evented, ended, numbered, timely, resulted, imaged}
use Rattle.station.specs.Turns.{turn_of, kept_set, after_turn}
use Rattle.station.proofs.Marks.{in_set_lem}

module _ (s : Station) (fresh : List ℕ) where
  -- the set of an outcome is the one that is kept
  pub record Kept (o : Outcome) : Type 0 where
    pub kept : o.station.set ≡ kept_set s.set s.count o.station.count fresh

  -- so the outcome is that of its turn
  pub rebuilt : {o : Outcome} {t : Turn} → t ≡ turn_of o → Kept o → after_turn s t fresh ≡ o
  rebuilt e k = ap (λ (t : Turn). after_turn s t fresh) e ∙ rw (← k.kept)

  held : s.set ≡ kept_set s.set s.count s.count fresh
  unfolding kept_set
  held = rw (le-ltb s.count s.count (omega arith))

  pub kept_refused : (a : Answer) → Kept (refused s a)
  kept_refused a = record { kept = held }

  kept_noting : (r apart : ℕ) → Kept (taken (noting s s.answered r apart))
  kept_noting r apart = record { kept = held }

  either : (t : Bool) {o p : Outcome} → (t ≡ true → Kept o) → (t ≡ false → Kept p) → Kept (cond t o p)
  either true f g = f refl
  either false f g = g refl

  unless : (t : Bool) (a : Answer) {o : Outcome} → (t ≡ false → Kept o) → Kept (cond t (refused s a) o)
  unless t a f = either t (λ e. kept_refused a) f

  -- ---- a request

  kept_accepted : (n : ℕ) (set : List ℕ) → fresh ≡ take (5 * n) set ++ replicate (40 - 5 * n) 0 → s.count < n → Kept (accepted s n set)
  unfolding accepted kept_set
  kept_accepted n set e h =
      unless (ltb (least n (overlaps_earlier set)) n) _
      (λ a. unless (ltb (least n (barred set s.bits)) n) _
      (λ b. record { kept = rw (lt-ltb s.count n h) (sym e) }))

  pub kept_requested : (n : ℕ) (set : List ℕ) → fresh ≡ take (5 * n) set ++ replicate (40 - 5 * n) 0 → Kept (requested s n set)
  unfolding requested cleared spared
  kept_requested n set e =
      unless (ltb 0 s.count) _
      (λ a. let h = ltb-false 0 s.count a in
      unless (ltb most_in_set n) _
      (λ b. unless (eqb n 0) _
      (λ c. let ne : n ≡ 0 → ⊥ = eqb-false n 0 c in
      unless (ltb (least n (bad set)) n) _
      (λ d. unless (crosses_drive s.bits set n) _
      (λ x. unless (ltb (least n (touches set s.apart)) n) _
      (λ f. kept_accepted n set e (omega arith)))))))

  -- ---- a car event

  kept_occurred : (e : Event) → Kept (occurred s e)
  unfolding occurred
  kept_occurred e =
      either (in_turn e (bit s.bits))
      (λ t. unless (lift_apart s.apart) _ (λ l. either (possible e (bit s.bits))
      (λ a. either (places_open e (bit s.bits)) (λ b. kept_noting _ _) (λ b. kept_refused _))
      (λ a. kept_refused _)))
      (λ t. kept_refused _)

  kept_driven : (e : Event) → Kept (driven s e)
  unfolding driven
  kept_driven e = unless (lift_in s.set s.count) _ (λ a. kept_occurred e)

  pub kept_evented : (e : ℕ) → Kept (evented s e)
  unfolding evented
  kept_evented e =
      either (eqb e 1) (λ a. kept_driven BeginIn)
      (λ a. either (eqb e 2) (λ b. kept_driven BeginOut)
      (λ b. either (eqb e 3) (λ c. kept_driven EndDone)
      (λ c. either (eqb e 4) (λ d. kept_driven EndNotDone) (λ d. kept_refused _))))

  -- ---- a result

  kept_answering : (i r apart : ℕ) → i < s.count → Kept (taken (answering s i r apart))
  unfolding answering kept_set
  kept_answering i r apart h = record {
    kept = split (every s.count (bit (bit_or s.answered (2 ^ i))))
        (λ e. rw (e, le-ltb s.count 0 (omega arith), lt-ltb 0 s.count (omega arith)))
        (λ e. rw (e, le-ltb s.count s.count (omega arith)));
  }

  kept_ended : (i ending : ℕ) → i < s.count → Kept (ended s i ending)
  unfolding ended
  kept_ended i ending h = kept_answering i _ _ h

  kept_numbered : (i ending : ℕ) → Kept (numbered s i ending)
  unfolding numbered
  kept_numbered i ending = unless (not (in_set s i)) _ (λ a. unless (marked s i) _ (λ b. kept_ended i ending (in_set_lem s i (not-false _ a)).1))

  kept_timely : (r : Report) → Kept (timely s r)
  unfolding timely
  kept_timely r = unless (late s r.issue) _ (λ a. either (eqb r.issue (present_issue s)) (λ b. kept_numbered r.number r.ending) (λ b. kept_refused _))

  pub kept_resulted : (r : Report) → Kept (resulted s r)
  unfolding resulted
  kept_resulted r = unless (ltb 2 r.ending) _ (λ a. unless (eqb s.count 0) _ (λ b. kept_timely r))

  -- ---- an image

  pub kept_imaged : (p : Picture) → Kept (imaged s p)
  unfolding imaged
  kept_imaged p = unless (ltb 0 s.count) _ (λ a. either (sound p.bits && eqb p.apart 0) (λ b. kept_noting p.bits 0) (λ b. kept_refused _))
