-- The issues of sets: which one a call carries and leaves, how far behind an issue is after further sets, and when a result is late.
-- Assumes nothing.
use mathlib.Core.Path.{◌≡◌, refl, ap, ◌∙◌}
use mathlib.Core.Bool.{true, false, cond, not}
use mathlib.Core.List.{List, [], ◌∷◌}
use Prim.Native.Nat.{ℕ, zero, suc, ◌+◌, ◌%◌, ◌<◌}
use native.Mathlib.Omega.{arith}
use lib.Dec.{eqb, ltb}
use borrow.Author.Tests.{eqb-true, eqb-false, eq-eqb, ne_eqb, ltb-false, le-ltb}
use Rattle.bits.specs.Bits.{digit}
use Rattle.bits.proofs.Cases.{split}
use Rattle.answers.specs.declared.Answer.{Answer}
use Rattle.answers.specs.declared.Answer.TheVariants.{Taken, Opened, TooFewBytes, BadLength, UnknownKind, BadField, TooMany, SetOutstanding, EmptySet, Overlap, NotAllowed, EventImpossible, NoSet, NotInSet, AlreadyAnswered, Unsound, Unfit, NoRoom, Late, NotIssued, OutOfTurn, SetApart, KeptOpen}
use Rattle.answers.specs.Answers.{number_of, issue_of}
use Rattle.station.specs.declared.Station.{Station}
use Rattle.station.specs.declared.Outcome.{Outcome}
use Rattle.station.specs.declared.Report.{Report}
use Rattle.station.specs.Station.{start_of, issue_after, present_issue, late, in_set, marked, fit, answering, apart_with}
use Rattle.station.specs.Calls as station
use Rattle.station.specs.Calls.{refused}
use Rattle.station_laws.specs.Runs as run
use Rattle.station_laws.specs.Runs.{Call, call, answer_number, station_after, issue_carried, opens, calls, sets_opened}
use Rattle.station_laws.specs.AnswersRight.{ResultHeard, LateExactly, IssuesInTurn, FirstIsZero, BehindCounts}
use Rattle.station_laws.proofs.Fits.{after_result}
use Rattle.station_laws.proofs.Calls.{either, following, request_has, request_is, success_has, success_is, failure_has, failure_is, stuck_has, stuck_is, ending_has, event_has, event_is, image_has, image_is, ask_has, ask_is}
use Rattle.station_laws.proofs.EachCall.{untouched}

-- ---- what a call carries and leaves

-- a refusal carries none
refusal_none : (a : Answer) → (number_of a ≡ 0 → ⊥) → issue_of a ≡ 0
refusal_none Taken h = refl
refusal_none (Opened k) h = absurd (h refl)
refusal_none TooFewBytes h = refl
refusal_none BadLength h = refl
refusal_none UnknownKind h = refl
refusal_none (BadField p) h = refl
refusal_none TooMany h = refl
refusal_none SetOutstanding h = refl
refusal_none EmptySet h = refl
refusal_none (Overlap p) h = refl
refusal_none (NotAllowed why p) h = refl
refusal_none EventImpossible h = refl
refusal_none NoSet h = refl
refusal_none NotInSet h = refl
refusal_none AlreadyAnswered h = refl
refusal_none Unsound h = refl
refusal_none Unfit h = refl
refusal_none NoRoom h = refl
refusal_none Late h = refl
refusal_none NotIssued h = refl
refusal_none OutOfTurn h = refl
refusal_none (SetApart p) h = refl
refusal_none KeptOpen h = refl

module _ (s : Station) where
  -- a call that opens no set carries none and keeps the next
  abbrev Keeps : Call → Type 0
  Keeps c = (issue_carried s c ≡ 0) × ((station_after s c).next ≡ s.next)

  by_taken : (c : Call) {t : Station} → call s c ≡ station.taken t → t.next ≡ s.next → Keeps c
  by_taken c e q = (ap (λ (o : Outcome). issue_of o.answer) e, ap (λ (o : Outcome). o.station.next) e ∙ q)

  by_said : (c : Call) → (answer_number s c ≡ 0 → Keeps c) → Keeps c
  by_said c f = split (eqb (answer_number s c) 0)
      (λ t. f (eqb-true (answer_number s c) 0 t))
      (λ t. let n = eqb-false (answer_number s c) 0 t in (refusal_none (call s c).answer n, ap (λ (t : Station). t.next) (untouched s c n)))

  answered_next : (i r apart : ℕ) → (answering s i r apart).next ≡ s.next
  answered_next i r apart = after_result (λ t. t.next ≡ s.next) s i r apart (λ t. refl) (λ t. refl)

  result_keeps : (k i ending : ℕ) → answer_number s (run.result_call k i ending) ≡ 0 → Keeps (run.result_call k i ending)
  result_keeps k i zero e = let (p, w) = failure_has s k i e in by_taken (run.result_call k i 0) (failure_is s k i p w) (answered_next i s.bits s.apart)
  result_keeps k i (suc zero) e = let (p, w) = success_has s k i e in by_taken (run.result_call k i 1) (success_is s k i p w) (answered_next i (following s i) s.apart)
  result_keeps k i (suc (suc zero)) e = let (p, w) = stuck_has s k i e in by_taken (run.result_call k i 2) (stuck_is s k i p w) (answered_next i s.bits (apart_with s i))
  result_keeps k i (suc (suc (suc n))) e = absurd (omega (arith, ending_has s (record { issue = k; number = i; ending = suc (suc (suc n)) }) e))

  -- what a call carries, and the next that it leaves
  abbrev pub InTurn : Call → Type 0
  InTurn c = (issue_carried s c ≡ cond (opens s c) s.next 0) × ((station_after s c).next ≡ cond (opens s c) (issue_after s.next) s.next)

  request_turns : (n : ℕ) (set : List ℕ) → InTurn (run.request n set)
  request_turns n set = split (eqb (answer_number s (run.request n set)) 0)
      (λ t. let e = request_is s n set (request_has s n set (eqb-true _ 0 t)) in
      (rw t (ap (λ (o : Outcome). issue_of o.answer) e), rw t (ap (λ (o : Outcome). o.station.next) e)))
      (λ t. let x = eqb-false _ 0 t in
      (rw t (refusal_none (call s (run.request n set)).answer x), rw t (ap (λ (t : Station). t.next) (untouched s (run.request n set) x))))

  -- what follows rests on this, so that a wrong law of it is refused alone
  pub in_turn : (c : Call) → InTurn c
  in_turn (run.request n set) = request_turns n set
  in_turn (run.reports r) = by_said (run.reports r) (result_keeps r.issue r.number r.ending)
  in_turn (run.event e) = by_said (run.event e) (λ z. by_taken (run.event e) (event_is s e (event_has s e z)) refl)
  in_turn (run.pictures p) = by_said (run.pictures p) (λ z. by_taken (run.pictures p) (image_is s p.bits p.apart (image_has s p.bits p.apart z)) refl)
  in_turn run.ask = by_said run.ask (λ z. by_taken run.ask (ask_is s (ask_has s z)) refl)

pub issues_in_turn : IssuesInTurn
issues_in_turn = in_turn

-- ---- after several calls

-- those that open no set keep the next
none_opened : (l : List Call) (s : Station) → sets_opened s l ≡ 0 → (calls s l).next ≡ s.next
none_opened [] s e = refl
none_opened (c ∷ l) s e = split (opens s c)
    (λ t. let one : digit (opens s c) ≡ 1 = rw t in absurd (omega arith))
    (λ t. none_opened l (station_after s c) (omega arith) ∙ (in_turn s c).1 ∙ rw t)

pub first_is_zero : FirstIsZero
first_is_zero l e n set z =
    let s = calls start_of l in
    let first : s.next ≡ 0 = none_opened l start_of e in
    let (a, b) = in_turn s (run.request n set) in
    let taken : opens s (run.request n set) ≡ true = eq-eqb _ 0 z in
    let second : (station_after s (run.request n set)).next ≡ 1 = b ∙ rw (taken, first) in
    (a ∙ rw taken first, ap (λ (k : ℕ). (k + 65535) % 65536) second)

-- the present issue moves on with each set
present_moves : (l : List Call) (s : Station) → present_issue (calls s l) ≡ (present_issue s + sets_opened s l) % 65536
present_moves [] s = omega arith
present_moves (c ∷ l) s = present_moves l (station_after s c) ∙ split (opens s c)
    (λ t. let p : (station_after s c).next ≡ issue_after s.next = (in_turn s c).1 ∙ rw t in
    let one : digit (opens s c) ≡ 1 = rw t in omega arith)
    (λ t. let p : (station_after s c).next ≡ s.next = (in_turn s c).1 ∙ rw t in
    let none : digit (opens s c) ≡ 0 = rw t in omega arith)

pub behind_counts : BehindCounts
behind_counts s l = let p = present_moves l s in omega arith

-- ---- late results

module _ (s : Station) (r : Report) where
  -- an outcome with one of the two numbers says that the result is heard, and how its issue stands
  record Told (o : Outcome) : Type 0 where
    late_told : number_of o.answer ≡ 29 → ResultHeard s r × (late s r.issue ≡ true)
    unissued_told : number_of o.answer ≡ 30 → ResultHeard s r × (late s r.issue ≡ false) × (r.issue ≡ present_issue s → ⊥)

  -- one with a smaller number says nothing of it
  other : {o : Outcome} → number_of o.answer < 29 → Told o
  other h = record { late_told = λ z. absurd (omega arith); unissued_told = λ z. absurd (omega arith) }

  numbered_told : Told (station.numbered s r.number r.ending)
  unfolding station.numbered station.ended
  numbered_told =
      either Told (not (in_set s r.number)) (λ a. other (omega arith)) (λ a.
      either Told (marked s r.number) (λ b. other (omega arith)) (λ b. other (omega arith)))

  timely_told : ResultHeard s r → Told (station.timely s r)
  unfolding station.timely
  timely_told H =
      either Told (late s r.issue)
      (λ a. record { late_told = λ z. (H, a); unissued_told = λ z. absurd (omega arith) }) (λ a.
      either Told (eqb r.issue (present_issue s)) (λ b. numbered_told)
      (λ b. record { late_told = λ z. absurd (omega arith); unissued_told = λ z. (H, a, eqb-false _ _ b) }))

  result_told : Told (station.result s r)
  unfolding station.result station.resulted
  result_told =
      either Told (fit s) (λ f.
      either Told (ltb 2 r.ending) (λ a. other (omega arith)) (λ a.
      either Told (eqb s.count 0) (λ b. other (omega arith)) (λ b.
      let l = ltb-false 2 r.ending a in
      let n : s.count ≡ 0 → ⊥ = eqb-false s.count 0 b in
      timely_told (f, l, omega arith))))
      (λ f. other (omega arith))

  -- the other direction
  heard_is : ResultHeard s r → station.result s r ≡ station.timely s r
  unfolding station.result station.resulted
  heard_is H = let h = H.2 in rw (H.0, le-ltb 2 r.ending H.1, ne_eqb s.count 0 (λ z. omega arith))

  late_is : ResultHeard s r → late s r.issue ≡ true → station.result s r ≡ refused s Late
  unfolding station.timely
  late_is H a = heard_is H ∙ rw a

  unissued_is : ResultHeard s r → late s r.issue ≡ false → (r.issue ≡ present_issue s → ⊥) → station.result s r ≡ refused s NotIssued
  unfolding station.timely
  unissued_is H a b = heard_is H ∙ rw (a, ne_eqb r.issue (present_issue s) b)

pub late_exactly : LateExactly
late_exactly s r =
    let T = result_told s r in (
      (T.late_told, λ x. ap (λ (o : Outcome). number_of o.answer) (late_is s r x.0 x.1)),
      (T.unissued_told, λ x. ap (λ (o : Outcome). number_of o.answer) (unissued_is s r x.0 x.1 x.2)),
    )
