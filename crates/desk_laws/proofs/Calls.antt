-- A call of the desk in one form: the station's, and past it a ruling on the numbers that come with it. Its answers and what it leaves are
-- told by that form. Assumes nothing.
use mathlib.Core.Path.{◌≡◌, refl, sym, ap, ◌∙◌}
use mathlib.Core.Logic.{◌↔◌, ◌⊎◌, inl, inr, ⊎_elim}
use mathlib.Core.Bool.{Bool, true, false, cond}
use mathlib.Core.List.{List}
use Prim.Native.Nat.{ℕ, ◌≤◌}
use native.Mathlib.Omega.{arith}
use lib.Dec.{eqb, leb}
use borrow.Author.Tests.{eqb-true, eqb-false, ne_eqb, eq-eqb, le-leb, leb-true}
use Rattle.bits.proofs.Cases.{split, clash, off, both, and_intro}
use Rattle.rules.specs.declared.Event.TheVariants.{BeginIn}
use Rattle.rules.specs.Codes.{read_event}
use Rattle.answers.specs.declared.Answer.{Answer}
use Rattle.answers.specs.declared.Answer.TheVariants.{Unfit}
use Rattle.answers.specs.Answers.{number_of, in_table}
use Rattle.answers.proofs.Promises.{table_exactly}
use Rattle.station.specs.declared.Outcome.{Outcome}
use Rattle.station.specs.Held.{code_at}
use Rattle.station.specs.Station.{fit}
use Rattle.station.specs.Calls as station
use Rattle.station_laws.specs.Runs as run
use Rattle.station_laws.proofs.EachCall as each
use Rattle.std.specs.declared.result.Result.{Result}
use Rattle.cards.specs.declared.GivenError.{GivenError}
use Rattle.std.specs.declared.result.Result.TheVariants.{Ok, Err}
use Rattle.cards.specs.declared.GivenError.TheVariants.{WrongCount, ZeroNumber, TwiceGiven}
use Rattle.cards.specs.Given.{given_as}
use Rattle.cards.specs.Held.{code_cards, cards_driven, cards_given, cards_fit, is_known}
use Rattle.desk.specs.declared.Desk.{Desk}
use Rattle.desk.specs.declared.DeskOutcome.{DeskOutcome}
use Rattle.desk.specs.declared.Reply.TheVariants.{Told}
use Rattle.desk.specs.Desk.{desk_fit, is_taken, reply_number}
use Rattle.desk.specs.Calls.{desk_refused, on_fit_desk, where_taken, offered, passed}
use Rattle.desk.specs.Calls as calling
use Rattle.desk_laws.specs.Runs as desk
use Rattle.desk_laws.specs.Runs.{DeskCall, call_desk, desk_answer_number, desk_after, under, itself}
use Rattle.desk_laws.specs.Promises.{DeskRefusedUntouched, AsStation, Passes, OtherEvents, ChangesNumbers, OnlySuccessMoves}

-- ---- one form

-- the station's call past its test of fitness, and the whole of it
abbrev past : Desk → DeskCall → Outcome
past d (desk.request n set) = station.requested d.station n set
past d (desk.reports r) = station.resulted d.station r
past d (desk.event e c) = station.evented d.station e
past d (desk.pictures p n ns) = station.imaged d.station p
past d desk.ask = station.taken d.station

abbrev pub beneath : Desk → DeskCall → Outcome
beneath d c = run.call d.station (under c)

-- what the number of a begin of a drive-in is found to be, by whether it is zero and whether it is known
abbrev pub begun : Bool → Bool → Result (Unit {0}) GivenError
begun z k = cond z (Err ZeroNumber) (cond k (Err TwiceGiven) (Ok tt))

-- what the numbers that come with a call are found to be
abbrev pub ruling : Desk → DeskCall → Result (Unit {0}) GivenError
ruling d (desk.request n set) = Ok tt
ruling d (desk.reports r) = Ok tt
ruling d (desk.event e c) = cond (eqb e 1) (begun (eqb c 0) (is_known d.numbers c)) (Ok tt)
ruling d (desk.pictures p n ns) = given_as p.bits n ns
ruling d desk.ask = Ok tt

-- the numbers that it leaves where it is taken
abbrev pub moved : Desk → DeskCall → List ℕ
moved d (desk.request n set) = d.numbers
moved d (desk.reports r) = cond (eqb r.ending 1) (code_cards (code_at d.station.set r.number) d.station.bits d.numbers) d.numbers
moved d (desk.event e c) = cond (eqb e 1) (cards_driven BeginIn c d.numbers) (passed (read_event e) d.numbers)
moved d (desk.pictures p n ns) = cards_given p.bits ns
moved d desk.ask = d.numbers

-- where the station takes it
abbrev pub ruled : Desk → DeskCall → Outcome → DeskOutcome
ruled d c o = where_taken d o (offered d o (moved d c) (ruling d c))

call_as : (d : Desk) (c : DeskCall) → call_desk d c ≡ on_fit_desk d (ruled d c (past d c))
unfolding calling.desk_request calling.desk_result calling.desk_event calling.desk_take_image calling.desk_ask calling.desk_begun
call_as d (desk.request n set) = refl
call_as d (desk.reports r) = refl
call_as d (desk.event e c) = split (eqb e 1)
    (λ t. rw t (split (eqb c 0) (λ z. rw z) (λ z. rw z (split (is_known d.numbers c) (λ k. rw k) (λ k. rw k)))))
    (λ t. rw t)
call_as d (desk.pictures p n ns) = refl
call_as d desk.ask = refl

-- ---- a fit desk

pub fit_parts : (d : Desk) → desk_fit d ≡ true → (fit d.station ≡ true) × (cards_fit d.station.bits d.numbers ≡ true)
unfolding desk_fit
fit_parts d f = both (fit d.station) (cards_fit d.station.bits d.numbers) f

pub fit_of : (d : Desk) → fit d.station ≡ true → cards_fit d.station.bits d.numbers ≡ true → desk_fit d ≡ true
unfolding desk_fit
fit_of d f g = and_intro f g

past_is : (d : Desk) → fit d.station ≡ true → (c : DeskCall) → past d c ≡ beneath d c
unfolding station.request station.result station.event station.take_image station.ask
past_is d f (desk.request n set) = rw f
past_is d f (desk.reports r) = rw f
past_is d f (desk.event e c) = rw f
past_is d f (desk.pictures p n ns) = rw f
past_is d f desk.ask = rw f

pub call_fit : (d : Desk) (c : DeskCall) → desk_fit d ≡ true → call_desk d c ≡ ruled d c (beneath d c)
call_fit d c f = call_as d c ∙ rw f (ap (ruled d c) (past_is d (fit_parts d f).0 c))

pub call_unfit : (d : Desk) (c : DeskCall) → desk_fit d ≡ false → call_desk d c ≡ desk_refused d (Told Unfit)
call_unfit d c f = call_as d c ∙ rw f

-- ---- each call

-- what holds of a refusal as unfit, of the station's refusal and of each ruling past it, holds of a call
pub each_call : (P : DeskOutcome → Type 0) (d : Desk) (c : DeskCall)
    → (desk_fit d ≡ false → P (desk_refused d (Told Unfit)))
    → (desk_fit d ≡ true → (run.answer_number d.station (under c) ≡ 0 → ⊥) → P (desk_refused d (Told (beneath d c).answer)))
    → (Passes d c → (v : Result (Unit {0}) GivenError) → ruling d c ≡ v → P (offered d (beneath d c) (moved d c) v))
    → P (call_desk d c)
each_call P d c unfit refuses rules = split (desk_fit d)
    (λ f. rw (call_fit d c f) (split (is_taken (beneath d c).answer)
    (λ t. rw t (rules (f, eqb-true _ 0 t) (ruling d c) refl))
    (λ t. rw t (refuses f (eqb-false _ 0 t)))))
    (λ f. rw (call_unfit d c f) (unfit f))

-- the number that each ruling is answered with
abbrev pub ruling_number : Result (Unit {0}) GivenError → ℕ
ruling_number (Ok tt) = 0
ruling_number (Err WrongCount) = 39
ruling_number (Err ZeroNumber) = 37
ruling_number (Err TwiceGiven) = 38

-- 37 to 39 are the desk's own: the station never says them
station_other : (a : Answer) (k : ℕ) → in_table k ≡ false → number_of a ≡ k → ⊥
station_other a k o e = clash ((table_exactly k).1 (a, sym e)) o

own_number : (k : ℕ) → 37 ≤ k → k ≤ 39 → in_table k ≡ false
own_number k h l = split (eqb k 37)
    (λ t. rw (eqb-true k 37 t))
    (λ t. split (eqb k 38) (λ u. rw (eqb-true k 38 u)) (λ u. let e : k ≡ 39 = omega (arith, eqb-false k 37 t, eqb-false k 38 u) in rw e))

-- the number of a ruling is no refusal of the station's
ruling_other : (a : Answer) (v : Result (Unit {0}) GivenError) → (number_of a ≡ 0 → ⊥) → number_of a ≡ ruling_number v → ⊥
ruling_other a (Ok tt) n e = n e
ruling_other a (Err WrongCount) n e = station_other a 39 refl e
ruling_other a (Err ZeroNumber) n e = station_other a 37 refl e
ruling_other a (Err TwiceGiven) n e = station_other a 38 refl e

offered_number : (d : Desk) (o : Outcome) (a : List ℕ) (v : Result (Unit {0}) GivenError) → number_of o.answer ≡ 0 → reply_number (offered d o a v).reply ≡ ruling_number v
offered_number d o a (Ok tt) z = z
offered_number d o a (Err WrongCount) z = refl
offered_number d o a (Err ZeroNumber) z = refl
offered_number d o a (Err TwiceGiven) z = refl

-- past the station a call is answered by its ruling
pub said_ruled : (d : Desk) (c : DeskCall) → Passes d c → desk_answer_number d c ≡ ruling_number (ruling d c)
said_ruled d c p =
    ap (λ (o : DeskOutcome). reply_number o.reply) (call_fit d c p.0)
    ∙ rw (eq-eqb _ 0 p.1) (offered_number d (beneath d c) (moved d c) (ruling d c) p.1)

-- no two rulings have the same number
abbrev ruling_of : ℕ → Result (Unit {0}) GivenError
ruling_of k = cond (eqb k 0) (Ok tt) (cond (eqb k 39) (Err WrongCount) (cond (eqb k 37) (Err ZeroNumber) (Err TwiceGiven)))

ruling_of_lem : (v : Result (Unit {0}) GivenError) → ruling_of (ruling_number v) ≡ v
ruling_of_lem (Ok tt) = refl
ruling_of_lem (Err WrongCount) = refl
ruling_of_lem (Err ZeroNumber) = refl
ruling_of_lem (Err TwiceGiven) = refl

ruling_same : (v w : Result (Unit {0}) GivenError) → ruling_number v ≡ ruling_number w → v ≡ w
ruling_same v w e = sym (ruling_of_lem v) ∙ ap ruling_of e ∙ ruling_of_lem w

pub begun_fine : (z k : Bool) → begun z k ≡ Ok tt → (z ≡ false) × (k ≡ false)
begun_fine true k e = absurd (omega (arith, ap ruling_number e))
begun_fine false true e = absurd (omega (arith, ap ruling_number e))
begun_fine false false e = (refl, refl)

not_sixteen : (v : Result (Unit {0}) GivenError) → 16 ≡ ruling_number v → ⊥
not_sixteen (Ok tt) e = omega arith
not_sixteen (Err WrongCount) e = omega arith
not_sixteen (Err ZeroNumber) e = omega arith
not_sixteen (Err TwiceGiven) e = omega arith

-- 0, 37, 38 and 39 are answered exactly by the ruling that has the number, past the station
pub answered : (d : Desk) (c : DeskCall) (v : Result (Unit {0}) GivenError) → (desk_answer_number d c ≡ ruling_number v) ↔ (Passes d c × (ruling d c ≡ v))
answered d c v = (
  each_call (λ o. reply_number o.reply ≡ ruling_number v → Passes d c × (ruling d c ≡ v)) d c
      (λ f e. absurd (not_sixteen v e))
      (λ f n e. absurd (ruling_other (beneath d c).answer v n e))
      (λ p w r e. (p, r ∙ ruling_same w v (sym (offered_number d (beneath d c) (moved d c) w p.1) ∙ e))),
  λ h. said_ruled d c h.0 ∙ ap ruling_number h.1,
)

-- what a call that is taken leaves
pub left_taken : (d : Desk) (c : DeskCall) → desk_answer_number d c ≡ 0 → desk_after d c ≡ record { station = run.station_after d.station (under c); numbers = moved d c }
left_taken d c e =
    let (p, r) = (answered d c (Ok tt)).0 e in
    ap (λ (o : DeskOutcome). o.desk) (call_fit d c p.0) ∙ rw (eq-eqb _ 0 p.1, r)

-- ---- the promises that go by this form

pub untouched : (d : Desk) (c : DeskCall) → (desk_answer_number d c ≡ 0 → ⊥) → desk_after d c ≡ d
untouched d c = each_call (λ o. (reply_number o.reply ≡ 0 → ⊥) → o.desk ≡ d) d c (λ f n. refl) (λ f m n. refl) (λ p v r. by p v)
  where
    by : Passes d c → (v : Result (Unit {0}) GivenError) → (reply_number (offered d (beneath d c) (moved d c) v).reply ≡ 0 → ⊥)
        → (offered d (beneath d c) (moved d c) v).desk ≡ d
    by p (Ok tt) n = absurd (n p.1)
    by p (Err WrongCount) n = refl
    by p (Err ZeroNumber) n = refl
    by p (Err TwiceGiven) n = refl

pub refused_untouched : DeskRefusedUntouched
refused_untouched = untouched

-- an outcome says what the station would and leaves what that leaves, or is a refusal of the desk's own
abbrev pub AsBeneath : Desk → DeskCall → DeskOutcome → Type 0
AsBeneath d c o =
    ((reply_number o.reply ≡ run.answer_number d.station (under c)) × (o.desk.station ≡ run.station_after d.station (under c)))
    ⊎ ((run.answer_number d.station (under c) ≡ 0) × (37 ≤ reply_number o.reply) × (reply_number o.reply ≤ 39))

pub as_beneath : (d : Desk) (c : DeskCall) → desk_fit d ≡ true → AsBeneath d c (call_desk d c)
as_beneath d c f = each_call (AsBeneath d c) d c
    (λ u. clash f u)
    (λ g n. inl (refl, sym (each.untouched d.station (under c) n)))
    (λ p v r. by p v)
  where
    by : Passes d c → (v : Result (Unit {0}) GivenError) → AsBeneath d c (offered d (beneath d c) (moved d c) v)
    by p (Ok tt) = inl (refl, refl)
    by p (Err WrongCount) = inr (p.1, (omega arith), (omega arith))
    by p (Err ZeroNumber) = inr (p.1, (omega arith), (omega arith))
    by p (Err TwiceGiven) = inr (p.1, (omega arith), (omega arith))

pub as_station : AsStation
as_station = as_beneath

-- so a call that the desk doesn't refuse by itself is the station's, and one that it does leaves all
pub its_own : (d : Desk) (c : DeskCall) → desk_fit d ≡ true
    → ((itself d c ≡ false) × ((desk_after d c).station ≡ run.station_after d.station (under c))) ⊎ ((itself d c ≡ true) × (desk_after d c ≡ d))
its_own d c f = ⊎_elim
    (λ h. inl (off _ (λ t. station's h.0 (both (leb 37 (desk_answer_number d c)) (leb (desk_answer_number d c) 39) t)), h.1))
    (λ h. inr (and_intro (le-leb 37 (desk_answer_number d c) h.1) (le-leb (desk_answer_number d c) 39 h.2), untouched d c (λ z. omega (arith, h.1))))
    (as_beneath d c f)
  where
    station's : desk_answer_number d c ≡ run.answer_number d.station (under c) → (leb 37 (desk_answer_number d c) ≡ true) × (leb (desk_answer_number d c) 39 ≡ true) → ⊥
    station's e t = station_other (beneath d c).answer (desk_answer_number d c) (own_number (desk_answer_number d c) (leb-true 37 _ t.0) (leb-true _ 39 t.1)) (sym e)

pub other_events : OtherEvents
unfolding calling.desk_event
other_events d e b c n = rw (ne_eqb e 1 n)

-- the numbers stay, but where one of these calls is taken
moved_by_lem : (d : Desk) (c : DeskCall) → (moved d c ≡ d.numbers) ⊎ ChangesNumbers c
moved_by_lem d (desk.request n set) = inl refl
moved_by_lem d (desk.reports r) = split (eqb r.ending 1) (λ t. inr (eqb-true r.ending 1 t)) (λ t. inl (rw t))
moved_by_lem d (desk.event e c) = inr tt
moved_by_lem d (desk.pictures p n ns) = inr tt
moved_by_lem d desk.ask = inl refl

pub only_success_moves : OnlySuccessMoves
only_success_moves d c = split (eqb (desk_answer_number d c) 0)
    (λ t. let e = eqb-true (desk_answer_number d c) 0 t in
    ⊎_elim (λ m. inl (ap (λ (b : Desk). b.numbers) (left_taken d c e) ∙ m)) (λ h. inr (e, h)) (moved_by_lem d c))
    (λ t. inl (ap (λ (b : Desk). b.numbers) (untouched d c (eqb-false (desk_answer_number d c) 0 t))))
