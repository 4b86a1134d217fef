-- Each call goes by its table: its chain of tests is the table's, line by line, and the rest is one law of tables. Assumes nothing.
use mathlib.Core.Path.{◌≡◌, refl, sym, ap, subst, ◌∙◌}
use mathlib.Core.Bool.{Bool, true, false, not, cond, ◌&&◌, ◌||◌}
use mathlib.Core.Logic.{◌⊎◌, inl, inr, ⊎_elim}
use mathlib.Core.List.{List, [], ◌∷◌, map}
use Prim.Native.Nat.{ℕ, zero, suc, ◌≤◌, ◌<◌}
use native.Mathlib.Omega.{arith}
use lib.Dec.{eqb, leb, ltb}
use lib.ListN.{length}
use borrow.Author.Tests.{eqb-true, eqb-false, eq-eqb, ltb-true, ltb-false, le-leb, lt-leb, not-true, not-false}
use Rattle.bits.specs.Bits.{bit}
use Rattle.bits.specs.Search.{some, every, least}
use Rattle.bits.proofs.Cases.{split, clash, both, neither}
use Rattle.bits.proofs.Search.{every_at, none_at, some_is, lt_or_ge}
use Rattle.bits.proofs.Least.{found_least, least_below}
use Rattle.floor.specs.Sound.{sound}
use Rattle.rules.specs.declared.Event.{Event}
use Rattle.rules.specs.declared.Event.TheVariants.{BeginIn, BeginOut, EndDone, EndNotDone}
use Rattle.std.specs.declared.option.Option.{Option}
use Rattle.std.specs.declared.option.Option.TheVariants.{Some, None}
use Rattle.rules.specs.declared.Refusal.{Refusal}
use Rattle.std.specs.declared.result.Result.TheVariants.{Err}
use Rattle.rules.specs.Events.{in_turn, possible, places_open}
use Rattle.rules.specs.Verdicts.{Verdict, code_verdict}
use Rattle.rules.specs.Codes.{read_event, event_code, most_in_set}
use Rattle.rules.proofs.CodeLaws.{event_one_form}
use Rattle.answers.specs.declared.Reason.{Reason}
use Rattle.answers.specs.declared.Reason.TheVariants.{NothingNamed, Gap, NotAvailable, NotFree, OddCount, HalfMove, SameHeight, NotAtRotation, CellsNotFree}
use Rattle.answers.specs.declared.Answer.{Answer}
use Rattle.answers.specs.declared.Answer.TheVariants.{Taken, Opened, BadField, TooMany, SetOutstanding, EmptySet, Overlap, NotAllowed, EventImpossible, NoSet, NotInSet, AlreadyAnswered, Unsound, Unfit, Late, NotIssued, OutOfTurn, SetApart, KeptOpen}
use Rattle.answers.specs.Answers.{number_of, place_of, nowhere}
use Rattle.station.specs.declared.Station.{Station}
use Rattle.station.specs.declared.Outcome.{Outcome}
use Rattle.station.specs.declared.Report.{Report}
use Rattle.station.specs.declared.Picture.{Picture}
use Rattle.station.specs.Held.{code_at, bad, overlaps_earlier, barred, why_not, lift_in, touches, lift_apart, crosses_drive}
use Rattle.station.specs.Station.{in_set, marked, present_issue, late, fit}
use Rattle.station.specs.Calls as station
use Rattle.station.specs.Calls.{refused, unless_any, opening}
use Rattle.station_laws.specs.Runs as run
use Rattle.station_laws.specs.Runs.{Call, call, answer_number}
use Rattle.station_laws.specs.Rejections.{Line, ◌if◌, line_answer, line_test, rejection_at, FirstToHold, GoesBy, for_least, reasons, is_for, not_allowed_for, request_table, RequestExactly, says, event_table, EventExactly, result_table, ResultExactly, image_table, ImageExactly, ask_table, AskExactly}
use Rattle.station_laws.proofs.Fits.{fit_has}
use Rattle.station_laws.proofs.Reasons.{least_fault, good_refused}
use Rattle.station_laws.proofs.Calls.{faultless, no_fault, driven_as, event_as}

-- ---- tables

-- the answer of the first line whose test holds, or this one where none does
pub first : List Line → Answer → Answer
first [] last = last
first ((a if t) ∷ table) last = cond t a (first table last)

module _ (last : Answer) where
  -- it is that of a line whose test is the first to hold
  first_is : (table : List Line) (i : ℕ) → FirstToHold table i → first table last ≡ line_answer (rejection_at table i)
  unfolding first
  first_is [] i L = absurd (let h = L.within in omega arith)
  first_is ((a if t) ∷ table) zero L = rw L.passes
  first_is ((a if t) ∷ table) (suc i) L = rw (L.none 0 (omega arith)) (first_is table i record {
    within = (let h = L.within in omega arith);
    passes = L.passes;
    none = λ j h. L.none (suc j) (omega arith);
  })

  first_none : (table : List Line) → ((i : ℕ) → i < length table → line_test (rejection_at table i) ≡ false) → first table last ≡ last
  unfolding first
  first_none [] h = refl
  first_none ((a if t) ∷ table) h = rw (h 0 (omega arith)) (first_none table (λ i l. h (suc i) (omega arith)))

-- the number of a line
abbrev number_at : List Line → ℕ → ℕ
number_at table i = number_of (line_answer (rejection_at table i))

-- no line has number 0, and no two have the same
pub distinct : List Line → Bool
distinct table =
    let other : ℕ → ℕ → Bool = λ i j. eqb i j || not (eqb (number_at table i) (number_at table j)) in
    every (length table) (λ i. not (eqb (number_at table i) 0) && every (length table) (other i))

module _ (table : List Line) (apart : distinct table ≡ true) where
  each : (i : ℕ) → i < length table
      → (number_at table i ≡ 0 → ⊥) × ((j : ℕ) → j < length table → number_at table i ≡ number_at table j → i ≡ j)
  unfolding distinct
  each i h =
      let (a, b) = both _ _ (every_at (length table) _ apart i h) in (
        λ z. clash (eq-eqb (number_at table i) 0 z) (not-true _ a),
        λ j l e. split (eqb i j)
            (λ t. eqb-true i j t)
            (λ t. clash (eq-eqb (number_at table i) (number_at table j) e) (not-true _ (rw t at (every_at (length table) _ b j l)))),
      )

  abbrev tests : ℕ → Bool
  tests j = line_test (rejection_at table j)

  abbrev NoneHolds : Type 0
  NoneHolds = (i : ℕ) → i < length table → tests i ≡ false

  -- a line is the first to hold, or none holds
  either_way : ((i : ℕ) × FirstToHold table i) ⊎ NoneHolds
  either_way = ⊎_elim
      (λ (l : least (length table) tests < length table). inl (least (length table) tests, found_least (length table) tests l))
      (λ (l : length table ≤ least (length table) tests). inr (λ i h. least_below (length table) tests i (omega arith)))
      (lt_or_ge (least (length table) tests) (length table))

  -- a call that is answered by a table goes by it
  module _ (s : Station) (c : Call) (last : Answer) (z : number_of last ≡ 0) (e : (call s c).answer ≡ first table last) where
    told : (i : ℕ) → FirstToHold table i → answer_number s c ≡ number_at table i
    told i L = ap number_of (e ∙ first_is last table i L)

    silent : NoneHolds → answer_number s c ≡ 0
    silent h = ap number_of (e ∙ first_none last table h) ∙ z

    -- where a line's number is returned, no other line is the first to hold
    back : (i : ℕ) → i < length table → answer_number s c ≡ number_at table i → FirstToHold table i
    back i h t = ⊎_elim
        (λ f. let same = (each i h).1 f.0 f.1.within (sym t ∙ told f.0 f.1) in subst (FirstToHold table) (sym same) f.1)
        (λ none. absurd ((each i h).0 (sym t ∙ silent none)))
        either_way

    -- where it is accepted, none holds
    none_left : answer_number s c ≡ 0 → NoneHolds
    none_left t = ⊎_elim (λ f. absurd ((each f.0 f.1.within).0 (sym (told f.0 f.1) ∙ t))) (λ none. none) either_way

    pub goes_by : GoesBy table s c
    goes_by = record {
      number = λ i h. (back i h, told i);
      place = λ i L. ap place_of (e ∙ first_is last table i L);
      accepted = (none_left, silent);
      listed = ⊎_elim (λ f. inr (f.0, f.1.within, told f.0 f.1)) (λ none. inl (silent none)) either_way;
    }

-- ---- a chain of tests, line by line

-- an outcome is answered by a table, or with this answer where no line's test holds
record Answers (o : Outcome) (table : List Line) (last : Answer) : Type 0 where
  so : o.answer ≡ first table last

-- past the last line
ends : {o : Outcome} {last : Answer} → o.answer ≡ last → Answers o [] last
unfolding first
ends e = record { so = e }

-- at a line whose test is known
refused_by : (s : Station) (a : Answer) {table : List Line} {last : Answer} → Answers (refused s a) (a if true ∷ table) last
unfolding first
refused_by s a = record { so = refl }

passed_by : (a : Answer) {o : Outcome} {table : List Line} {last : Answer} → Answers o table last → Answers o (a if false ∷ table) last
unfolding first
passed_by a h = record { so = h.so }

-- refused where a test holds, which is the line's
line_as : (t u : Bool) → t ≡ u → (s : Station) (a : Answer) {o : Outcome} {table : List Line} {last : Answer}
    → (u ≡ false → Answers o table last) → Answers (cond t (refused s a) o) (a if u ∷ table) last
line_as true true e s a h = refused_by s a
line_as true false e s a h = clash refl e
line_as false true e s a h = clash e refl
line_as false false e s a h = passed_by a (h refl)

line : (t : Bool) (s : Station) (a : Answer) {o : Outcome} {table : List Line} {last : Answer}
    → (t ≡ false → Answers o table last) → Answers (cond t (refused s a) o) (a if t ∷ table) last
line t s a h = line_as t t refl s a h

-- refused where a test fails, of which the line's is the opposite
held_as : (t u : Bool) → not t ≡ u → (s : Station) (a : Answer) {o : Outcome} {table : List Line} {last : Answer}
    → (t ≡ true → Answers o table last) → Answers (cond t o (refused s a)) (a if u ∷ table) last
held_as true true e s a h = clash e refl
held_as true false e s a h = passed_by a (h refl)
held_as false true e s a h = refused_by s a
held_as false false e s a h = clash refl e

held : (t : Bool) (s : Station) (a : Answer) {o : Outcome} {table : List Line} {last : Answer}
    → (t ≡ true → Answers o table last) → Answers (cond t o (refused s a)) (a if not t ∷ table) last
held t s a h = held_as t (not t) refl s a h

-- one is found exactly if some is at fault
found_some : (n : ℕ) (fault : ℕ → Bool) → ltb (least n fault) n ≡ some n fault
found_some n fault = split (some n fault)
    (λ t. rw t (let (i, h, e) = some_is n fault t in split (ltb (least n fault) n) (λ u. u) (λ u. clash e (faultless n fault u i h))))
    (λ t. rw t (no_fault n fault (none_at n fault t)))

least_line : (n : ℕ) (fault : ℕ → Bool) (s : Station) (a : ℕ → Answer) {o : Outcome} {table : List Line} {last : Answer}
    → (some n fault ≡ false → Answers o table last) → Answers (unless_any n fault s a o) (for_least a n fault ∷ table) last
least_line n fault s a h = line_as (ltb (least n fault) n) (some n fault) (found_some n fault) s (a (least n fault)) h

-- ---- a request

module _ (s : Station) (n : ℕ) (set : List ℕ) where
  -- the lines of the reasons: the first that holds is that of the verdict
  by_reason : (why : Reason) (b : Bool) (v : Verdict) (p : ℕ) (last : Answer) → b ≡ true → v ≡ Err (Refusal.NotAllowed why)
      → first (map (λ w. NotAllowed w p if (b && is_for w v)) reasons) last ≡ NotAllowed why p
  unfolding first
  by_reason NothingNamed b v p last t e = rw (t, e)
  by_reason Gap b v p last t e = rw (t, e)
  by_reason NotAvailable b v p last t e = rw (t, e)
  by_reason NotFree b v p last t e = rw (t, e)
  by_reason OddCount b v p last t e = rw (t, e)
  by_reason HalfMove b v p last t e = rw (t, e)
  by_reason SameHeight b v p last t e = rw (t, e)
  by_reason NotAtRotation b v p last t e = rw (t, e)
  by_reason CellsNotFree b v p last t e = rw (t, e)

  -- none holds where none is at fault
  by_none : (b : Bool) (v : Verdict) (p : ℕ) (last : Answer) → b ≡ false
      → first (map (λ w. NotAllowed w p if (b && is_for w v)) reasons) last ≡ last
  unfolding first
  by_none b v p last t = rw t

  abbrev lacking : ℕ → Bool
  lacking = barred set s.bits

  -- the last test of a request, and what is answered by it
  abbrev judged : Bool → Outcome
  judged b = cond b (refused s (why_not set s.bits (least n lacking))) (opening s n set)

  abbrev verdict : Verdict
  verdict = code_verdict (code_at set (least n lacking)) s.bits

  judged_as : {b : Bool} → ltb (least n lacking) n ≡ b → (judged (ltb (least n lacking) n)).answer ≡ (judged b).answer
  judged_as e = ap (λ (b : Bool). (judged b).answer) e

  request_judged : some n (bad set) ≡ false
      → Answers (judged (ltb (least n lacking) n)) (map (not_allowed_for s n set) reasons) (Opened s.next)
  unfolding code_verdict
  request_judged good = split (some n lacking)
      (λ t.
      let u = found_some n lacking ∙ t in
      let L = least_fault n lacking u in
      let R = good_refused set s.bits (least n lacking) L.passes (not-false _ (none_at n (bad set) good _ L.within)) in
      let v : verdict ≡ Err (Refusal.NotAllowed R.why) = rw R.says R.verdict in
      record { so = judged_as u ∙ R.told ∙ sym (by_reason R.why (some n lacking) verdict _ (Opened s.next) t v) })
      (λ t. record { so = judged_as (found_some n lacking ∙ t) ∙ sym (by_none (some n lacking) verdict _ (Opened s.next) t) })

  request_answers : Answers (station.request s n set) (request_table s n set) (Opened s.next)
  unfolding station.request station.requested station.cleared station.spared station.accepted
  request_answers =
      held (fit s) s Unfit (λ a.
      line (ltb 0 s.count) s SetOutstanding (λ b.
      line (ltb most_in_set n) s TooMany (λ c.
      line (eqb n 0) s EmptySet (λ d.
      least_line n (bad set) s BadField (λ good.
      line (crosses_drive s.bits set n) s OutOfTurn (λ f.
      least_line n (touches set s.apart) s SetApart (λ g.
      least_line n (overlaps_earlier set) s Overlap (λ h.
      request_judged good))))))))

pub request_exactly : RequestExactly
unfolding distinct every
request_exactly s n set = goes_by (request_table s n set) refl s (run.request n set) (Opened s.next) refl (request_answers s n set).so

-- ---- a car event

-- a byte that is neither 0 nor above 4 says an event
unknown : (e : ℕ) → read_event e ≡ None → eqb e 0 || ltb 4 e ≡ true
unfolding read_event
unknown e p = split (eqb e 0 || ltb 4 e) (λ t. t) (λ t.
    let (a, b) = neither (eqb e 0) (ltb 4 e) t in
    let l = eqb-false e 0 a in
    let h = ltb-false 4 e b in
    split (eqb e 1) (λ u. absurd (told_apart (rw u at p)))
    (λ u. split (eqb e 2) (λ v. absurd (told_apart (rw (u, v) at p)))
    (λ v. split (eqb e 3) (λ w. absurd (told_apart (rw (u, v, w) at p)))
    (λ w. split (eqb e 4) (λ x. absurd (told_apart (rw (u, v, w, x) at p)))
    (λ x. absurd (omega (arith, eqb-false e 1 u, eqb-false e 2 v, eqb-false e 3 w, eqb-false e 4 x)))))))
  where
    told_apart : {x : Event} → Some x ≡ None → ⊥
    told_apart q = clash refl (ap (says (λ x. true)) q)

-- and an event's byte is such a one
known : (x : Event) → eqb (event_code x) 0 || ltb 4 (event_code x) ≡ false
known BeginIn = refl
known BeginOut = refl
known EndDone = refl
known EndNotDone = refl

module _ (s : Station) where
  -- the table by what the byte says, and whether it is out of range
  abbrev table_by : (Option Event) → Bool → List Line
  table_by v out =
      Unfit if not (fit s)
      ∷ BadField nowhere if out
      ∷ SetOutstanding if lift_in s.set s.count
      ∷ OutOfTurn if says (λ x. not (in_turn x (bit s.bits))) v
      ∷ SetApart nowhere if lift_apart s.apart
      ∷ EventImpossible if says (λ x. not (possible x (bit s.bits))) v
      ∷ KeptOpen if says (λ x. not (places_open x (bit s.bits))) v
      ∷ []

  event_known : (x : Event) → Answers (driven_as s (Some x)) (table_by (Some x) false) Taken
  unfolding station.driven station.occurred
  event_known x =
      held (fit s) s Unfit (λ a.
      passed_by (BadField nowhere) (line (lift_in s.set s.count) s SetOutstanding (λ b.
      held (in_turn x (bit s.bits)) s OutOfTurn (λ c.
      line (lift_apart s.apart) s (SetApart nowhere) (λ d.
      held (possible x (bit s.bits)) s EventImpossible (λ f.
      held (places_open x (bit s.bits)) s KeptOpen (λ g.
      ends refl)))))))

  event_unknown : Answers (driven_as s None) (table_by None true) Taken
  event_unknown = held (fit s) s Unfit (λ a. refused_by s (BadField nowhere))

  event_answers : (e : ℕ) (v : (Option Event)) → read_event e ≡ v → Answers (driven_as s v) (table_by v (eqb e 0 || ltb 4 e)) Taken
  event_answers e (Some x) p = rw (event_one_form e x p, known x) (event_known x)
  event_answers e None p = rw (unknown e p) event_unknown

pub event_exactly : EventExactly
unfolding distinct every
event_exactly s e = goes_by (event_table s e) refl s (run.event e) Taken refl
    (ap (λ (o : Outcome). o.answer) (event_as s e) ∙ (event_answers s e (read_event e) refl).so)

-- ---- a result

-- a number that is not in a fit station's set
past_set : (s : Station) (i : ℕ) → fit s ≡ true → not (in_set s i) ≡ leb s.count i
past_set s i f = rw (le-leb s.count most_in_set (fit_has s f).few) (split (ltb i s.count)
    (λ t. rw (t, lt-leb s.count i (ltb-true i s.count t)))
    (λ t. rw (t, le-leb s.count i (ltb-false i s.count t))))

result_answers : (s : Station) (r : Report) → Answers (station.result s r) (result_table s r) Taken
unfolding station.result station.resulted station.timely station.numbered station.ended
result_answers s r =
    held (fit s) s Unfit (λ a.
    line (ltb 2 r.ending) s (BadField nowhere) (λ b.
    line (eqb s.count 0) s NoSet (λ c.
    line (late s r.issue) s Late (λ d.
    held (eqb r.issue (present_issue s)) s NotIssued (λ f.
    line_as (not (in_set s r.number)) (leb s.count r.number) (past_set s r.number a) s NotInSet (λ g.
    line (marked s r.number) s AlreadyAnswered (λ h.
    ends refl)))))))

pub result_exactly : ResultExactly
unfolding distinct every
result_exactly s r = goes_by (result_table s r) refl s (run.reports r) Taken refl (result_answers s r).so

-- ---- an image

not_both : (a b : Bool) → not (a && b) ≡ not a || not b
not_both true b = refl
not_both false b = refl

image_answers : (s : Station) (p : Picture) → Answers (station.take_image s p) (image_table s p) Taken
unfolding station.take_image station.imaged
image_answers s p =
    held (fit s) s Unfit (λ a.
    line (ltb 0 s.count) s SetOutstanding (λ b.
    held_as (sound p.bits && eqb p.apart 0) _ (not_both (sound p.bits) (eqb p.apart 0)) s Unsound (λ c.
    ends refl)))

pub image_exactly : ImageExactly
unfolding distinct every
image_exactly s p = goes_by (image_table s p) refl s (run.pictures p) Taken refl (image_answers s p).so

-- ---- the record asked for

ask_answers : (s : Station) → Answers (station.ask s) (ask_table s) Taken
unfolding station.ask
ask_answers s = held (fit s) s Unfit (λ a. ends refl)

pub ask_exactly : AskExactly
unfolding distinct every
ask_exactly s = goes_by (ask_table s) refl s run.ask Taken refl (ask_answers s).so
