-- A call leaves a fit desk fit: the station by its own laws, and the numbers since what moves them is taken on a fit station. So after any
-- calls no desk says that it is unfit, and its station is the one that its own calls make. Assumes nothing.
use mathlib.Core.Path.{◌≡◌, refl, sym, ap, subst, ◌∙◌}
use mathlib.Core.Logic.{⊎_elim}
use mathlib.Core.Bool.{Bool, true, false, not, cond}
use mathlib.Core.List.{List, [], ◌∷◌}
use Prim.Native.Nat.{ℕ, ◌≤◌}
use native.Mathlib.Omega.{arith}
use lib.Dec.{eqb, ltb}
use lib.ListN.{length, get_or-eq_default}
use borrow.Author.Tests.{eqb-true, eqb-false, eq-eqb, ltb-true, ltb-false}
use Rattle.rules.specs.declared.Instruction.{Instruction}
use Rattle.bits.specs.Bits.{bit, image}
use Rattle.bits.specs.Search.{some, every}
use Rattle.bits.proofs.Cases.{split, clash}
use Rattle.bits.proofs.Search.{some_at}
use Rattle.floor.specs.Sound.{sound}
use Rattle.rules.specs.declared.Code.{Code}
use Rattle.std.specs.declared.option.Option.{Option}
use Rattle.std.specs.declared.option.Option.TheVariants.{Some, None}
use Rattle.rules.specs.declared.Event.{Event}
use Rattle.rules.specs.declared.Event.TheVariants.{BeginIn, BeginOut, EndDone, EndNotDone}
use Rattle.rules.specs.Rules.{allowed, next_record}
use Rattle.rules.specs.Codes.{read_code, read_event, event_code}
use Rattle.rules.specs.Verdicts.{on_code}
use Rattle.rules.proofs.CodeLaws.{event_one_form}
use Rattle.station.specs.declared.Station.{Station}
use Rattle.station.specs.declared.Report.{Report}
use Rattle.station.specs.Held.{code_at, held_allowed, held_next}
use Rattle.station_laws.specs.Runs as run
use Rattle.station_laws.specs.Runs.{Call}
use Rattle.station_laws.specs.AnswersRight.{Waiting, ChangesRecord}
use Rattle.station_laws.proofs.Instance.{possible_as, after_as}
use Rattle.station_laws.proofs.Fits.{fit_has, fit_start, waits_allowed}
use Rattle.station_laws.proofs.Calls.{following, success_has, success_is, answering_bits, event_has, event_is, image_has, image_is}
use Rattle.station_laws.proofs.EachCall.{fit_says}
use Rattle.station_laws.proofs.Changes.{only_success_changes}
use Rattle.station_laws.proofs.Always as always
use Rattle.std.specs.declared.result.Result.TheVariants.{Ok, Err}
use Rattle.std.specs.declared.result.Result.{Result}
use Rattle.cards.specs.declared.GivenError.{GivenError}
use Rattle.cards.specs.declared.GivenError.TheVariants.{WrongCount, ZeroNumber}
use Rattle.cards.specs.Given.{wanted, zero_at, given_as}
use Rattle.cards.specs.Held.{cards_after, code_cards, cards_driven, cards_fit, is_known}
use Rattle.cards_laws.proofs.Tested.{is_new}
use Rattle.cards_laws.proofs.Arrays.{after_fit, driven_fit, given_fit}
use Rattle.desk.specs.declared.Desk.{Desk}
use Rattle.desk.specs.Desk.{desk_fit, start_desk}
use Rattle.desk.specs.Calls.{passed}
use Rattle.desk_laws.specs.Runs as desk
use Rattle.desk_laws.specs.Runs.{DeskCall, desk_answer_number, desk_after, calls_desk, DeskBegins, at_start, by_image, under, below}
use Rattle.desk_laws.specs.Promises.{DeskFitStays, DeskNeverUnfit, StationBelow, Passes}
use Rattle.desk_laws.proofs.Calls.{begun, begun_fine, ruling, moved, ruling_number, fit_parts, fit_of, answered, left_taken, untouched, as_beneath, its_own, call_unfit}

-- ---- the record that the station's call leaves

-- all but a success, an event and an image leave it
pub still : (s : Station) (c : Call) → (ChangesRecord c → ⊥) → (run.station_after s c).bits ≡ s.bits
still s c n = ⊎_elim (λ e. e) (λ h. absurd (n h.1)) (only_success_changes s c)

-- a success leaves what its rule makes of it
pub success_bits : (s : Station) (r : Report) → r.ending ≡ 1 → run.answer_number s (run.reports r) ≡ 0
    → Waiting s r.number × ((run.station_after s (run.reports r)).bits ≡ following s r.number)
success_bits s r e = subst Of (sym e) one
  where
    Of : ℕ → Type 0
    Of m =
        run.answer_number s (run.result_call r.issue r.number m) ≡ 0
        → Waiting s r.number × ((run.station_after s (run.result_call r.issue r.number m)).bits ≡ following s r.number)

    one : Of 1
    one z =
        let (p, w) = success_has s r.issue r.number z in
        (w, ap (λ o. o.station.bits) (success_is s r.issue r.number p w) ∙ answering_bits s r.number (following s r.number) s.apart)

pub event_bits : (s : Station) (e : ℕ) → run.answer_number s (run.event e) ≡ 0 → (run.station_after s (run.event e)).bits ≡ after_as (read_event e) s.bits
event_bits s e z = ap (λ o. o.station.bits) (event_is s e (event_has s e z))

-- ---- the numbers fit it

-- a success that is allowed moves the numbers so that they fit the record after it
pub code_fits : (x : Code) (r : ℕ) (a : List ℕ) → sound r ≡ true → held_allowed x (bit r) ≡ true → cards_fit r a ≡ true
    → cards_fit (image (held_next x (bit r))) (code_cards x r a) ≡ true
unfolding held_allowed held_next code_cards
code_fits x r a s = read (read_code x)
  where
    read : (v : (Option Instruction)) → on_code (λ i. allowed i (bit r)) false v ≡ true → cards_fit r a ≡ true
        → cards_fit (image (on_code (λ i. next_record i (bit r)) (bit r) v)) (on_code (λ i. cards_after i r a) a v) ≡ true
    read (Some i) t f = after_fit r a s f i t
    read None t f = clash t refl

-- a number that is found fine at a begin is new
pub begun_new : (c : ℕ) (a : List ℕ) → begun (eqb c 0) (is_known a c) ≡ Ok tt → is_new c a ≡ true
begun_new c a e = let (z, k) = begun_fine (eqb c 0) (is_known a c) e in rw (z, k)

-- an event that is no begin of a drive-in brings none
pub other_event : (e : Event) (c : ℕ) (a : List ℕ) → (event_code e ≡ 1 → ⊥) → e ≡ BeginIn → is_new c a ≡ true
other_event e c a n q = absurd (n (ap event_code q))

event_fits : (d : Desk) (e c : ℕ) (v : (Option Event)) → read_event e ≡ v → sound d.station.bits ≡ true → possible_as v d.station.bits ≡ true
    → cards_fit d.station.bits d.numbers ≡ true → ruling d (desk.event e c) ≡ Ok tt
    → cards_fit (after_as v d.station.bits) (cond (eqb e 1) (cards_driven BeginIn c d.numbers) (passed v d.numbers)) ≡ true
event_fits d e c (Some BeginIn) r s p f =
    rw (event_one_form e BeginIn r) (λ g. driven_fit _ d.numbers s f BeginIn c p (λ q. begun_new c d.numbers g))
event_fits d e c (Some BeginOut) r s p f =
    rw (event_one_form e BeginOut r) (λ g. driven_fit _ d.numbers s f BeginOut 0 p (other_event BeginOut 0 d.numbers (λ z. omega arith)))
event_fits d e c (Some EndDone) r s p f =
    rw (event_one_form e EndDone r) (λ g. driven_fit _ d.numbers s f EndDone 0 p (other_event EndDone 0 d.numbers (λ z. omega arith)))
event_fits d e c (Some EndNotDone) r s p f =
    rw (event_one_form e EndNotDone r) (λ g. driven_fit _ d.numbers s f EndNotDone 0 p (other_event EndNotDone 0 d.numbers (λ z. omega arith)))
event_fits d e c None r s p f = clash p refl

-- numbers that are fine with an image are all there
pub fine_length : (r n : ℕ) (ns : List ℕ) → given_as r n ns ≡ Ok tt → n ≤ length ns
unfolding given_as
fine_length r n ns e = split (ltb (length ns) n)
    (λ t. let past = eq-eqb _ 0 (get_or-eq_default ns 0 {n = length ns} (omega arith)) in
    let z : some n (zero_at ns) ≡ true = some_at n (zero_at ns) (length ns) (ltb-true (length ns) n t) past in
    absurd (never (not (eqb n (wanted r))) (rw z at e)))
    (λ t. ltb-false (length ns) n t)
  where
    early : Bool → Result (Unit {0}) GivenError
    early b = cond b (Err WrongCount) (Err ZeroNumber)

    never : (b : Bool) → early b ≡ Ok tt → ⊥
    never true e = omega (arith, ap ruling_number e)
    never false e = omega (arith, ap ruling_number e)

cards_kept : (d : Desk) (c : DeskCall) → Passes d c → ruling d c ≡ Ok tt → cards_fit (run.station_after d.station (under c)).bits (moved d c) ≡ true
cards_kept d (desk.request n set) p v = rw (still d.station (run.request n set) (λ x. x)) (fit_parts d p.0).1
cards_kept d (desk.reports r) p v = split (eqb r.ending 1)
    (λ t. let s = d.station in
    let (w, b) = success_bits s r (eqb-true r.ending 1 t) p.1 in
    rw (t, b)
    (code_fits (code_at s.set r.number) s.bits d.numbers (fit_has s w.0).sound (waits_allowed s r.number w) (fit_parts d p.0).1))
    (λ t. rw (t, still d.station (run.reports r) (λ e. eqb-false r.ending 1 t e)) (fit_parts d p.0).1)
cards_kept d (desk.event e c) p v =
    let (f, g) = fit_parts d p.0 in
    rw (event_bits d.station e p.1)
    (event_fits d e c (read_event e) refl (fit_has d.station f).sound (event_has d.station e p.1).3 g v)
cards_kept d (desk.pictures x n ns) p v =
    let w = image_has d.station x.bits x.apart p.1 in
    rw (ap (λ o. o.station.bits) (image_is d.station x.bits x.apart w))
    (given_fit x.bits n ns w.2 (fine_length x.bits n ns v) v)
cards_kept d desk.ask p v = rw (still d.station run.ask (λ x. x)) (fit_parts d p.0).1

-- ---- the promises

pub fit_kept : (d : Desk) (c : DeskCall) → desk_fit d ≡ true → desk_fit (desk_after d c) ≡ true
fit_kept d c f = split (eqb (desk_answer_number d c) 0)
    (λ t. let e = eqb-true (desk_answer_number d c) 0 t in
    let (p, v) = (answered d c (Ok tt)).0 e in
    rw (left_taken d c e) (fit_of _ (always.fit_kept d.station (under c) (fit_parts d f).0) (cards_kept d c p v)))
    (λ t. rw (untouched d c (eqb-false (desk_answer_number d c) 0 t)) f)

pub fit_stays : DeskFitStays
fit_stays d c = split (desk_fit d)
    (λ t. fit_kept d c t ∙ sym t)
    (λ t. ap (λ o. desk_fit o.desk) (call_unfit d c t))

pub fit_always : (l : List DeskCall) (d : Desk) → desk_fit d ≡ true → desk_fit (calls_desk d l) ≡ true
fit_always [] d f = f
fit_always (c ∷ l) d f = fit_always l (desk_after d c) (fit_kept d c f)

-- where it begins it is fit
start_cards : cards_fit start_desk.station.bits start_desk.numbers ≡ true
unfolding cards_fit every some
start_cards = refl

pub begins_fit : (d : Desk) → DeskBegins d → desk_fit d ≡ true
begins_fit d at_start = fit_of start_desk fit_start start_cards
begins_fit d (by_image before p n ns h e) = fit_kept before (desk.pictures p n ns) ((answered before (desk.pictures p n ns) (Ok tt)).0 e).0.0

fit_says_other : (d : Desk) (c : DeskCall) → desk_fit d ≡ true → desk_answer_number d c ≡ 16 → ⊥
fit_says_other d c f e = ⊎_elim
    (λ h. fit_says d.station (fit_parts d f).0 (under c) (sym h.0 ∙ e))
    (λ h. omega (arith, h.1))
    (as_beneath d c f)

pub never_unfit : DeskNeverUnfit
never_unfit d b l c = fit_says_other (calls_desk d l) c (fit_always l d (begins_fit d b))

below_fit : (l : List DeskCall) (d : Desk) → desk_fit d ≡ true → (calls_desk d l).station ≡ run.calls d.station (below d l)
below_fit [] d f = refl
below_fit (c ∷ l) d f =
    let rest = below_fit l (desk_after d c) (fit_kept d c f) in
    ⊎_elim
    (λ h. rest ∙ ap (λ (s : Station). run.calls s (below (desk_after d c) l)) h.1 ∙ sym (ap (through d c l) h.0))
    (λ h. rest ∙ ap (λ (b : Desk). run.calls b.station (below (desk_after d c) l)) h.1 ∙ sym (ap (through d c l) h.0))
    (its_own d c f)
  where
    -- the station after them, where the desk refuses the first by itself or not
    through : Desk → DeskCall → List DeskCall → Bool → Station
    through d c l b = let rest = below (desk_after d c) l in run.calls d.station (cond b rest (under c ∷ rest))

pub station_below : StationBelow
station_below d b l = below_fit l d (begins_fit d b)
