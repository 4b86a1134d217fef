-- Every call is refused since the station is unfit, or with a number that is none of 0, 16 and 17, or taken. Assumes nothing.
use mathlib.Core.Path.{◌≡◌, refl}
use mathlib.Core.Bool.{Bool, true, false, not, cond, ◌&&◌}
use mathlib.Core.List.{List}
use Prim.Native.Nat.{ℕ}
use native.Mathlib.Omega.{arith}
use lib.Dec.{eqb, ltb}
use Rattle.bits.specs.Bits.{bit}
use Rattle.bits.specs.Search.{least}
use Rattle.bits.proofs.Cases.{clash}
use Rattle.floor.specs.Sound.{sound}
use Rattle.rules.specs.declared.Event.{Event}
use Rattle.std.specs.declared.option.Option.{Option}
use Rattle.std.specs.declared.option.Option.TheVariants.{Some, None}
use Rattle.rules.specs.Events.{in_turn, possible, places_open}
use Rattle.rules.specs.Codes.{read_event, most_in_set}
use Rattle.answers.specs.declared.Answer.{Answer}
use Rattle.answers.specs.declared.Answer.TheVariants.{BadField, TooMany, SetOutstanding, EmptySet, Overlap, EventImpossible, NoSet, NotInSet, AlreadyAnswered, Unsound, Unfit, Late, NotIssued, OutOfTurn, SetApart, KeptOpen}
use Rattle.answers.specs.Answers.{number_of, nowhere}
use Rattle.station.specs.declared.Station.{Station}
use Rattle.station.specs.declared.Outcome.{Outcome}
use Rattle.station.specs.declared.Report.{Report}
use Rattle.station.specs.Held.{bad, overlaps_earlier, barred, lift_in, touches, lift_apart, crosses_drive}
use Rattle.station.specs.Station.{in_set, marked, present_issue, late, fit, seeing}
use Rattle.station.specs.Calls as station
use Rattle.station.specs.Calls.{refused, taken, on_fit, opening}
use Rattle.station_laws.specs.Runs as run
use Rattle.station_laws.specs.Runs.{Call, call, answer_number, station_after}
use Rattle.station_laws.proofs.Calls.{either, Other, barred_other, driven_as, event_as, Zero}

module _ (P : Outcome → Type 0) (s : Station) (unfit : fit s ≡ false → P (refused s Unfit))
    (no : (a : Answer) → Other a → P (refused s a)) (done : (t : Station) → P (taken t))
    (begun : (n : ℕ) (set : List ℕ) → P (opening s n set)) where
  unless : (t : Bool) (a : Answer) {o : Outcome} → Other a → (t ≡ false → P o) → P (cond t (refused s a) o)
  unless t a other f = either P t (λ e. no a other) f

  fitting : {o : Outcome} → (fit s ≡ true → P o) → P (on_fit s o)
  fitting f = either P (fit s) f unfit

  accepting : (n : ℕ) (set : List ℕ) → P (station.accepted s n set)
  unfolding station.accepted
  accepting n set =
      unless (ltb (least n (overlaps_earlier set)) n) (Overlap (least n (overlaps_earlier set))) (omega arith)
      (λ a. either P (ltb (least n (barred set s.bits)) n) (λ t. no _ (barred_other s n set t))
      (λ b. begun n set))

  requesting : (n : ℕ) (set : List ℕ) → P (station.requested s n set)
  unfolding station.requested station.cleared station.spared
  requesting n set =
      unless (ltb 0 s.count) SetOutstanding (omega arith)
      (λ a. unless (ltb most_in_set n) TooMany (omega arith)
      (λ b. unless (eqb n 0) EmptySet (omega arith)
      (λ c. unless (ltb (least n (bad set)) n) (BadField (least n (bad set))) (omega arith)
      (λ d. unless (crosses_drive s.bits set n) OutOfTurn (omega arith)
      (λ f. unless (ltb (least n (touches set s.apart)) n) (SetApart (least n (touches set s.apart))) (omega arith)
      (λ g. accepting n set))))))

  numbering : (i d : ℕ) → P (station.numbered s i d)
  unfolding station.numbered station.ended
  numbering i d = unless (not (in_set s i)) NotInSet (omega arith) (λ a. unless (marked s i) AlreadyAnswered (omega arith) (λ m. done _))

  timing : (r : Report) → P (station.timely s r)
  unfolding station.timely
  timing r =
      unless (late s r.issue) Late (omega arith)
      (λ a. either P (eqb r.issue (present_issue s)) (λ b. numbering r.number r.ending) (λ b. no NotIssued (omega arith)))

  resulting : (r : Report) → P (station.resulted s r)
  unfolding station.resulted
  resulting r = unless (ltb 2 r.ending) (BadField nowhere) (omega arith) (λ a. unless (eqb s.count 0) NoSet (omega arith) (λ b. timing r))

  driving : (v : (Option Event)) → P (driven_as s v)
  unfolding station.driven station.occurred
  driving (Some e) =
      fitting (λ f. unless (lift_in s.set s.count) SetOutstanding (omega arith)
      (λ a. either P (in_turn e (bit s.bits))
      (λ t. unless (lift_apart s.apart) (SetApart nowhere) (omega arith)
      (λ l. either P (possible e (bit s.bits))
      (λ b. either P (places_open e (bit s.bits)) (λ o. done _) (λ o. no KeptOpen (omega arith)))
      (λ b. no EventImpossible (omega arith))))
      (λ t. no OutOfTurn (omega arith))))
  driving None = fitting (λ f. no (BadField nowhere) (omega arith))

  pub each_call : (c : Call) → P (call s c)
  unfolding station.request station.result station.take_image station.imaged station.ask
  each_call (run.request n set) = fitting (λ f. requesting n set)
  each_call (run.reports r) = fitting (λ f. resulting r)
  each_call (run.event e) = rw (event_as s e) (driving (read_event e))
  each_call (run.pictures p) = fitting (λ f. unless (ltb 0 s.count) SetOutstanding (omega arith)
      (λ a. either P (sound p.bits && eqb p.apart 0) (λ b. done (seeing s p.bits)) (λ b. no Unsound (omega arith))))
  each_call run.ask = fitting (λ f. done s)

-- a refused call leaves the station as it was
pub untouched : (s : Station) (c : Call) → (answer_number s c ≡ 0 → ⊥) → station_after s c ≡ s
untouched s c = each_call (λ o. (Zero o → ⊥) → o.station ≡ s) s (λ e n. refl) (λ a h n. refl) (λ t n. absurd (n refl)) (λ n set m. absurd (m refl)) c

-- on a station that is not fit
pub unfit_is : (s : Station) → fit s ≡ false → (c : Call) → call s c ≡ refused s Unfit
unfolding station.request station.result station.event station.take_image station.ask
unfit_is s e (run.request n set) = rw e
unfit_is s e (run.reports r) = rw e
unfit_is s e (run.event x) = rw e
unfit_is s e (run.pictures p) = rw e
unfit_is s e run.ask = rw e

-- a fit one never answers 16
pub fit_says : (s : Station) → fit s ≡ true → (c : Call) → answer_number s c ≡ 16 → ⊥
fit_says s f = each_call (λ o. number_of o.answer ≡ 16 → ⊥) s (λ e. clash f e) (λ a h. h.1) (λ t z. omega arith) (λ n set z. omega arith)

-- none is answered with 17, which is for lent room
pub not_seventeen : (s : Station) (c : Call) → answer_number s c ≡ 17 → ⊥
not_seventeen s = each_call (λ o. number_of o.answer ≡ 17 → ⊥) s (λ e z. omega arith) (λ a h. h.2) (λ t z. omega arith) (λ n set z. omega arith)
