-- The places: a request's answer names the least instruction at fault, every other answer none. Assumes nothing.
use mathlib.Core.Path.{◌≡◌, refl, sym, subst}
use mathlib.Core.Logic.{◌⊎◌, inl, inr}
use mathlib.Core.Bool.{Bool, true, false, not, cond, ◌&&◌}
use mathlib.Core.List.{List}
use Prim.Native.Nat.{ℕ, ◌≤◌, ◌<◌}
use native.Mathlib.Omega.{arith}
use lib.Dec.{eqb, ltb}
use borrow.Author.Tests.{ltb-true, ltb-false, not-false}
use Rattle.bits.specs.Bits.{bit}
use Rattle.bits.specs.Search.{least, IsLeast}
use Rattle.floor.specs.Sound.{sound}
use Rattle.rules.specs.declared.Event.{Event}
use Rattle.std.specs.declared.option.Option.{Option}
use Rattle.std.specs.declared.option.Option.TheVariants.{Some, None}
use Rattle.rules.specs.Events.{in_turn, possible, places_open}
use Rattle.rules.specs.Codes.{read_event, most_in_set}
use Rattle.answers.specs.declared.Reason.{Reason}
use Rattle.answers.specs.declared.Answer.{Answer}
use Rattle.answers.specs.declared.Answer.TheVariants.{Taken, Opened, TooFewBytes, BadLength, UnknownKind, BadField, TooMany, SetOutstanding, EmptySet, Overlap, NotAllowed, EventImpossible, NoSet, NotInSet, AlreadyAnswered, Unsound, Unfit, NoRoom, Late, NotIssued, OutOfTurn, SetApart, KeptOpen}
use Rattle.answers.specs.Answers.{reason_number, number_of, place_of, nowhere}
use Rattle.answers.proofs.Promises.{reason_from, reason_to}
use Rattle.station.specs.declared.Station.{Station}
use Rattle.station.specs.declared.Outcome.{Outcome}
use Rattle.station.specs.declared.Report.{Report}
use Rattle.station.specs.declared.Picture.{Picture}
use Rattle.station.specs.Held.{touches, lift_apart, bad, overlaps_earlier, barred, why_not, lift_in, crosses_drive}
use Rattle.station.specs.Station.{in_set, marked, present_issue, late, fit}
use Rattle.station.specs.Calls as station
use Rattle.station_laws.specs.Runs as run
use Rattle.station_laws.specs.Runs.{call}
use Rattle.station_laws.specs.AnswersRight.{PlacesRight, PlacesElse, PlacesInRange}
use Rattle.station_laws.proofs.Calls.{either, faultless, event_as, driven_as}
use Rattle.station_laws.proofs.Reasons.{least_fault, good_refused}

-- the number and the place of an outcome
abbrev number : Outcome → ℕ
number o = number_of o.answer

abbrev place : Outcome → ℕ
place o = place_of o.answer

-- ---- a request

module _ (s : Station) (n : ℕ) (set : List ℕ) where
  record Right (o : Outcome) : Type 0 where
    four : number o ≡ 4 → IsLeast n (bad set) (place o)
    apart : number o ≡ 32 → IsLeast n (touches set s.apart) (place o)
    eight : number o ≡ 8 → IsLeast n (overlaps_earlier set) (place o)
    reason : (why : Reason) → number o ≡ reason_number why → IsLeast n (barred set s.bits) (place o)
    range : (place o < most_in_set) ⊎ (place o ≡ nowhere)

  -- an answer below or above the reasons' is none of theirs
  beside : {k : ℕ} → ((20 ≤ k) × (k ≤ 28) → ⊥) → (why : Reason) → k ≡ reason_number why → ⊥
  beside {k} h why e = h (let l = reason_from why in omega arith, let l = reason_to why in omega arith)

  -- an answer that names no instruction
  plain : (o : Outcome) → (number o ≡ 4 → ⊥) × (number o ≡ 32 → ⊥) × (number o ≡ 8 → ⊥) × ((20 ≤ number o) × (number o ≤ 28) → ⊥) → place o ≡ nowhere → Right o
  plain o other e = record {
    four = λ z. absurd (other.0 z);
    apart = λ z. absurd (other.1 z);
    eight = λ z. absurd (other.2 z);
    reason = λ why z. absurd (beside other.3 why z);
    range = inr e;
  }

  -- one of at most eight
  small : (fault : ℕ → Bool) → n ≤ most_in_set → ltb (least n fault) n ≡ true → least n fault < most_in_set
  small fault h t = let l = ltb-true (least n fault) n t in omega arith

  -- the least not allowed, with its reason
  refused_right : n ≤ most_in_set → ltb (least n (bad set)) n ≡ false → ltb (least n (barred set s.bits)) n ≡ true
      → Right (station.refused s (why_not set s.bits (least n (barred set s.bits))))
  refused_right few good t =
      let L = least_fault n (barred set s.bits) t in
      let R = good_refused set s.bits _ L.passes (not-false _ (faultless n (bad set) good _ L.within)) in
      subst (λ (a : Answer). Right (station.refused s a)) (sym R.told)
      (let l = reason_from R.why in
      let u = reason_to R.why in
      record {
        four = λ z. absurd (omega arith);
        apart = λ z. absurd (omega arith);
        eight = λ z. absurd (omega arith);
        reason = λ why z. L;
        range = inl (small _ few t);
      })

  accepted_right : n ≤ most_in_set → ltb (least n (bad set)) n ≡ false → Right (station.accepted s n set)
  unfolding station.accepted
  accepted_right few good =
      either Right (ltb (least n (overlaps_earlier set)) n)
      (λ t. record {
        four = λ z. absurd (omega arith);
        apart = λ z. absurd
            (omega arith);
        eight = λ z. least_fault n _ t;
        reason = λ why z. absurd (beside (λ h. omega arith) why z);
        range = inl
            (small _ few t);
      }) (λ a.
      either Right (ltb (least n (barred set s.bits)) n)
      (refused_right few good)
      (λ b. plain _ ((λ z. omega arith), (λ z. omega arith), (λ z. omega arith), (λ z. omega arith)) refl))

  requested_right : Right (station.requested s n set)
  unfolding station.requested station.cleared station.spared
  requested_right =
      either Right (ltb 0 s.count) (λ t. plain _ ((λ z. omega arith), (λ z. omega arith), (λ z. omega arith), (λ z. omega arith)) refl) (λ a.
      either Right (ltb most_in_set n) (λ t. plain _ ((λ z. omega arith), (λ z. omega arith), (λ z. omega arith), (λ z. omega arith)) refl) (λ b.
      either Right (eqb n 0) (λ t. plain _ ((λ z. omega arith), (λ z. omega arith), (λ z. omega arith), (λ z. omega arith)) refl) (λ c.
      let few = ltb-false most_in_set n b in
      either Right (ltb (least n (bad set)) n)
      (λ t. record {
        four = λ z. least_fault n _ t;
        apart = λ z. absurd (omega arith);
        eight = λ z. absurd
            (omega arith);
        reason = λ why z. absurd (beside (λ h. omega arith) why z);
        range = inl (small _ few t);
      })
      (λ d. either Right (crosses_drive s.bits set n) (λ t. plain _ ((λ z. omega arith), (λ z. omega arith), (λ z. omega arith), (λ z. omega arith)) refl) (λ x.
      either Right (ltb (least n (touches set s.apart)) n)
      (λ t. record {
        four = λ z. absurd (omega arith);
        apart = λ z. least_fault n _ t;
        eight = λ z. absurd
            (omega arith);
        reason = λ why z. absurd (beside (λ h. omega arith) why z);
        range = inl (small _ few t);
      })
      (λ y. accepted_right few d))))))

  request_right : Right (station.request s n set)
  unfolding station.request
  request_right = either Right (fit s) (λ f. requested_right) (λ f. plain _ ((λ z. omega arith), (λ z. omega arith), (λ z. omega arith), (λ z. omega arith)) refl)

pub places_right : PlacesRight
places_right s n set = let R = request_right s n set in (R.four, R.apart, R.eight, R.reason)

-- ---- every other answer

answer_nowhere : (a : Answer) → ((number_of a ≡ 4) ⊎ ((number_of a ≡ 32) ⊎ ((number_of a ≡ 8) ⊎ ((why : Reason) × (number_of a ≡ reason_number why)))) → ⊥) → place_of a ≡ nowhere
answer_nowhere Taken other = refl
answer_nowhere (Opened k) other = refl
answer_nowhere TooFewBytes other = refl
answer_nowhere BadLength other = refl
answer_nowhere UnknownKind other = refl
answer_nowhere (BadField p) other = absurd (other (inl refl))
answer_nowhere TooMany other = refl
answer_nowhere SetOutstanding other = refl
answer_nowhere EmptySet other = refl
answer_nowhere (Overlap p) other = absurd (other (inr (inr (inl refl))))
answer_nowhere (NotAllowed why p) other = absurd (other (inr (inr (inr (why, refl)))))
answer_nowhere EventImpossible other = refl
answer_nowhere NoSet other = refl
answer_nowhere NotInSet other = refl
answer_nowhere AlreadyAnswered other = refl
answer_nowhere Unsound other = refl
answer_nowhere Unfit other = refl
answer_nowhere NoRoom other = refl
answer_nowhere Late other = refl
answer_nowhere NotIssued other = refl
answer_nowhere OutOfTurn other = refl
answer_nowhere (SetApart p) other = absurd (other (inr (inl refl)))
answer_nowhere KeptOpen other = refl

record Flat (o : Outcome) : Type 0 where
  flat : place o ≡ nowhere

-- a test with no place on either side
fork : (t : Bool) {o p : Outcome} → Flat o → Flat p → Flat (cond t o p)
fork t f g = either Flat t (λ e. f) (λ e. g)

flatly : {o : Outcome} → place o ≡ nowhere → Flat o
flatly e = record { flat = e }

module _ (s : Station) where
  ended_flat : (i ending : ℕ) → Flat (station.ended s i ending)
  unfolding station.ended
  ended_flat i ending = flatly refl

  numbered_flat : (i ending : ℕ) → Flat (station.numbered s i ending)
  unfolding station.numbered
  numbered_flat i ending = fork (not (in_set s i)) (flatly refl) (fork (marked s i) (flatly refl) (ended_flat i ending))

  timely_flat : (r : Report) → Flat (station.timely s r)
  unfolding station.timely
  timely_flat r = fork (late s r.issue) (flatly refl) (fork (eqb r.issue (present_issue s)) (numbered_flat r.number r.ending) (flatly refl))

  resulted_flat : (r : Report) → Flat (station.resulted s r)
  unfolding station.resulted
  resulted_flat r = fork (ltb 2 r.ending) (flatly refl) (fork (eqb s.count 0) (flatly refl) (timely_flat r))

  result_flat : (r : Report) → Flat (station.result s r)
  unfolding station.result
  result_flat r = fork (fit s) (resulted_flat r) (flatly refl)

  driven_flat : (v : (Option Event)) → Flat (driven_as s v)
  unfolding station.driven station.occurred
  driven_flat (Some e) =
      fork (fit s) (fork (lift_in s.set s.count) (flatly refl)
      (fork (in_turn e (bit s.bits)) (fork (lift_apart s.apart) (flatly refl)
      (fork (possible e (bit s.bits)) (fork (places_open e (bit s.bits)) (flatly refl) (flatly refl)) (flatly refl))) (flatly refl))) (flatly refl)
  driven_flat None = fork (fit s) (flatly refl) (flatly refl)

  image_flat : (p : Picture) → Flat (station.take_image s p)
  unfolding station.take_image station.imaged
  image_flat p = fork (fit s) (fork (ltb 0 s.count) (flatly refl) (fork (sound p.bits && eqb p.apart 0) (flatly refl) (flatly refl))) (flatly refl)

  ask_flat : Flat (station.ask s)
  unfolding station.ask
  ask_flat = fork (fit s) (flatly refl) (flatly refl)

  event_flat : (e : ℕ) → Flat (station.event s e)
  event_flat e = rw (event_as s e) (driven_flat (read_event e))

pub places_else : PlacesElse
places_else s (run.request n set) other = answer_nowhere (call s (run.request n set)).answer other
places_else s (run.reports r) other = (result_flat s r).flat
places_else s (run.event e) other = (event_flat s e).flat
places_else s (run.pictures p) other = (image_flat s p).flat
places_else s run.ask other = (ask_flat s).flat

pub places_in_range : PlacesInRange
places_in_range s (run.request n set) = (request_right s n set).range
places_in_range s (run.reports r) = inr (result_flat s r).flat
places_in_range s (run.event e) = inr (event_flat s e).flat
places_in_range s (run.pictures p) = inr (image_flat s p).flat
places_in_range s run.ask = inr (ask_flat s).flat
