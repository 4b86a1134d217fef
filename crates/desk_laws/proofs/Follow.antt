-- The desk follows the machine of the crate `sets` from act to act, as long as the machine's list is fair: it takes each result, answers each
-- event as the machine does, and shows the machine's station at the end. Its station's part is the station's own following. Assumes nothing.
use mathlib.Core.Path.{◌≡◌, refl, sym, ap, ap₂, subst, ◌∙◌}
use mathlib.Core.Logic.{◌↔◌, ⊎_elim}
use mathlib.Core.Bool.{Bool, true, false, not, ◌&&◌}
use mathlib.Core.List.{List, [], ◌∷◌, map}
use Prim.Native.Nat.{ℕ, ◌+◌, ◌%◌}
use native.Mathlib.Omega.{arith}
use lib.Dec.{eqb}
use lib.ListN.{get_or}
use borrow.Author.Tests.{eqb-true, eqb-false, not-true}
use Rattle.rules.specs.declared.Event.{Event}
use Rattle.bits.proofs.Cases.{split, clash, off, both}
use Rattle.rules.specs.declared.Code.{Code}
use Rattle.std.specs.declared.option.Option.{Option}
use Rattle.std.specs.declared.option.Option.TheVariants.{Some, None}
use Rattle.rules.specs.Codes.{read_event}
use Rattle.any_order.proofs.Machine as machine
use Rattle.any_order.proofs.Machine.{Outcome, failed, finished, stuck, moves, Act, result, event, outstanding, released, noted}
use Rattle.any_order.proofs.Orders as machine-orders
use Rattle.station.specs.declared.Station.{Station}
use Rattle.station.specs.Station.{present_issue, fit}
use Rattle.station_laws.specs.Runs as run
use Rattle.station_laws.specs.Runs.{Call}
use Rattle.station_laws.proofs.Instance.{rules, held_as}
use Rattle.station_laws.proofs.Calls.{event_has, event_is}
use Rattle.station_laws.proofs.Steps.{Step, steps}
use Rattle.station_laws.proofs.Link.{view, drivable}
use Rattle.station_laws.proofs.Lists.{ending, as_call}
use Rattle.station_laws.proofs.Follow as station
use Rattle.station_laws.proofs.Follow.{next_kept}
use Rattle.std.specs.declared.result.Result.TheVariants.{Ok}
use Rattle.cards.specs.Held.{is_known}
use Rattle.desk.specs.declared.Desk.{Desk}
use Rattle.desk.specs.Desk.{desk_fit}
use Rattle.desk.specs.Calls.{passed}
use Rattle.desk_laws.specs.Runs as desk
use Rattle.desk_laws.specs.Runs.{DeskCall, desk_answer_number, desk_after, calls_desk, under}
use Rattle.desk_laws.specs.Orders.{DeskFair, desk_replies}
use Rattle.desk_laws.proofs.Calls as call
use Rattle.desk_laws.proofs.Calls.{ruling, moved, ruling_number, fit_parts, said_ruled, left_taken, refused_untouched, as_station}
use Rattle.desk_laws.proofs.Fits.{fit_kept}
use Rattle.desk_laws.proofs.Carrying.{driven_as}
use Rattle.desk_laws.proofs.Instance.{Garage, brings, brought, answered, numbered}
use Rattle.desk_laws.proofs.Jams.{on_top, desk_view}

-- an act as a call of the desk, results with issue k; and as the station's
abbrev pub as_desk : ℕ → Act (ℕ × ℕ) → DeskCall
as_desk k (result j o) = desk.reports (record { issue = k; number = j; ending = ending o })
as_desk k (event e) = desk.event e.0 e.1

abbrev pub forget : Act (ℕ × ℕ) → Act ℕ
forget (result j o) = result j o
forget (event e) = event e.0

pub under_is : (k : ℕ) (a : Act (ℕ × ℕ)) → under (as_desk k a) ≡ as_call k (forget a)
under_is k (result j o) = refl
under_is k (event e) = refl

-- ---- what a station's steps keep, the desk's calls keep

pub kept_by : (Q : Station → Type 0) → ((s t : Station) (c : Call) → Step s c t → Q s → Q t)
    → (k : ℕ) (a : Act (ℕ × ℕ)) (d : Desk) → Q d.station → Q (desk_after d (as_desk k a)).station
kept_by Q keep k a d q = split (eqb (desk_answer_number d (as_desk k a)) 0)
    (λ t. rw (left_taken d (as_desk k a) (eqb-true _ 0 t)) (keep d.station _ _ (step a) q))
    (λ t. rw (refused_untouched d (as_desk k a) (eqb-false _ 0 t)) q)
  where
    step : (a : Act (ℕ × ℕ)) → Step d.station (under (as_desk k a)) (run.station_after d.station (under (as_desk k a)))
    step (result j o) = steps d.station _ tt
    step (event e) = steps d.station _ tt

pub kept_along : (Q : Station → Type 0) → ((s t : Station) (c : Call) → Step s c t → Q s → Q t)
    → (k : ℕ) (l : List (Act (ℕ × ℕ))) (d : Desk) → Q d.station → Q (calls_desk d (map (as_desk k) l)).station
kept_along Q keep k [] d q = q
kept_along Q keep k (a ∷ l) d q = kept_along Q keep k l (desk_after d (as_desk k a)) (kept_by Q keep k a d q)

-- results and events keep the issue of the next set
next_one : (k : ℕ) (a : Act (ℕ × ℕ)) (d : Desk) → (desk_after d (as_desk k a)).station.next ≡ d.station.next
next_one k a d = split (eqb (desk_answer_number d (as_desk k a)) 0)
    (λ t. ap (λ (b : Desk). b.station.next) (left_taken d (as_desk k a) (eqb-true _ 0 t))
    ∙ ap (λ (c : Call). (run.station_after d.station c).next) (under_is k a) ∙ next_kept k (forget a ∷ []) d.station)
    (λ t. ap (λ (b : Desk). b.station.next) (refused_untouched d (as_desk k a) (eqb-false _ 0 t)))

pub next_along : (k : ℕ) (l : List (Act (ℕ × ℕ))) (d : Desk) → (calls_desk d (map (as_desk k) l)).station.next ≡ d.station.next
next_along k [] d = refl
next_along k (a ∷ l) d = next_along k l (desk_after d (as_desk k a)) ∙ next_one k a d

present_one : (k : ℕ) (a : Act (ℕ × ℕ)) (d : Desk) → k ≡ present_issue d.station → k ≡ present_issue (desk_after d (as_desk k a)).station
present_one k a d e = e ∙ ap (λ (n : ℕ). (n + 65535) % 65536) (sym (next_one k a d))

-- ---- a result

-- with its last result a machine's station is released, numbers or not
released_top : (m : machine.Station ℕ Code) (a : List ℕ) → on_top (released rules m) a ≡ released numbered (on_top m a)
released_top m a = split (outstanding m) (λ t. rw t) (λ t. rw t)

module _ (d : Desk) (f : desk_fit d ≡ true) (k : ℕ) (p : k ≡ present_issue d.station) (i : ℕ) (o : Outcome)
    (t : machine.taken rules (view d.station) (result i o) ≡ true)
    (ok : moves o ≡ true → rules.allowed ((view d.station).set.at i) d.station.bits ≡ true) where
  -- the station follows
  beneath : station.Followed k (result i o ∷ []) d.station (view d.station)
  beneath = station.follows k (result i o ∷ []) d.station (fit_parts d f).0 p (t, ok, tt)

  result_said : desk_answer_number d (as_desk k (result i o)) ≡ 0
  result_said = (call.answered d (as_desk k (result i o)) (Ok tt)).1 ((f, beneath.fair.0), refl)

  noted_top : (o : Outcome) → on_top (noted rules (view d.station) i o) (moved d (as_desk k (result i o))) ≡ noted numbered (desk_view d) i o
  noted_top failed = refl
  noted_top finished = refl
  noted_top stuck = refl

  step_beneath : machine.step rules (view d.station) (result i o) ≡ released rules (noted rules (view d.station) i o)
  step_beneath = rw t

  step_here : machine.step numbered (desk_view d) (result i o) ≡ released numbered (noted numbered (desk_view d) i o)
  step_here = rw t

  result_view : desk_view (desk_after d (as_desk k (result i o))) ≡ machine.step numbered (desk_view d) (result i o)
  result_view =
      let a = moved d (as_desk k (result i o)) in
      ap desk_view (left_taken d (as_desk k (result i o)) result_said)
      ∙ ap (λ (m : machine.Station ℕ Code). on_top m a) (beneath.shows ∙ step_beneath)
      ∙ released_top (noted rules (view d.station) i o) a ∙ ap (released numbered) (noted_top o) ∙ sym step_here

-- ---- an event

-- the desk's ruling on the number that comes with it, as the machine has it
ruling_number_lem : (d : Desk) (e c : ℕ) → ruling_number (ruling d (desk.event e c)) ≡ answered e c d.numbers 0
ruling_number_lem d e c = split (eqb e 1)
    (λ t. rw t (split (eqb c 0) (λ z. rw z) (λ z. rw z (split (is_known d.numbers c) (λ u. rw u) (λ u. rw u)))))
    (λ t. rw t)

brings_fine : (d : Desk) (e c : ℕ) → (brings e c d.numbers ≡ true) ↔ (ruling d (desk.event e c) ≡ Ok tt)
brings_fine d e c = split (eqb e 1)
    (λ t. rw t (split (eqb c 0)
    (λ z. rw z (never, λ u. absurd (omega (arith, ap ruling_number u))))
    (λ z. rw z (split (is_known d.numbers c)
    (λ u. rw u (never, λ v. absurd (omega (arith, ap ruling_number v))))
    (λ u. rw u ((λ v. refl), (λ v. refl)))))))
    (λ t. rw t ((λ v. refl), (λ v. refl)))
  where
    never : {A : Type 0} → false ≡ true → A
    never e = clash e refl

-- the numbers that it leaves where it is taken
moved_begin : (d : Desk) (c : ℕ) → moved d (desk.event 1 c) ≡ driven_as (read_event 1) (brought 1 c) d.numbers
unfolding read_event
moved_begin d c = refl

moved_is : (d : Desk) (e c : ℕ) → moved d (desk.event e c) ≡ driven_as (read_event e) (brought e c) d.numbers
moved_is d e c = split (eqb e 1) (λ t. rw (eqb-true e 1 t) (moved_begin d c)) (λ t. rw t (other (read_event e)))
  where
    other : (v : (Option Event)) → passed v d.numbers ≡ driven_as v 0 d.numbers
    other (Some x) = refl
    other None = refl

module _ (d : Desk) (f : desk_fit d ≡ true) (e c : ℕ) where
  abbrev s : Station
  s = d.station

  fits : fit s ≡ true
  fits = (fit_parts d f).0

  -- the station follows
  under_it : station.Followed (present_issue s) (event e ∷ []) s (view s)
  under_it = station.follows (present_issue s) (event e ∷ []) s fits refl tt

  -- a held event is refused by any desk
  held_other : (v : (Option Event)) → answered e c d.numbers (held_as v) ≡ held_as v
  held_other (Some x) = refl
  held_other None = refl

  says_is : machine.says numbered (desk_view d) (e, c) ≡ answered e c d.numbers (machine.says rules (view s) e)
  says_is = split (machine.blocked rules (view s)) (λ t. rw t (sym (held_other (read_event e)))) (λ t. rw t)

  said_is : desk_answer_number d (desk.event e c) ≡ answered e c d.numbers (run.answer_number s (run.event e))
  said_is = split (eqb (run.answer_number s (run.event e)) 0)
      (λ t. let z = eqb-true (run.answer_number s (run.event e)) 0 t in rw z (said_ruled d (desk.event e c) (f, z) ∙ ruling_number_lem d e c))
      (λ t. ⊎_elim (λ h. h.0) (λ h. absurd (eqb-false _ 0 t h.0)) (as_station d (desk.event e c) f) ∙ sym (rw t))

  event_answer : desk_answer_number d (desk.event e c) ≡ machine.says numbered (desk_view d) (e, c)
  event_answer = said_is ∙ ap (answered e c d.numbers) (ap first under_it.replied) ∙ sym says_is
    where
      first : List ℕ → ℕ
      first l = get_or l 0 0

  -- the machine takes what the station takes and the desk lets pass
  taken_is : machine.taken numbered (desk_view d) (event (e, c)) ≡ machine.taken rules (view s) (event e) && brings e c d.numbers
  taken_is =
      grouped (not (machine.blocked rules (view s))) (not (machine.lost rules (view s).away)) (rules.possible e s.bits) (brings e c d.numbers)
    where
      grouped : (x y z w : Bool) → x && (y && (z && w)) ≡ (x && (y && z)) && w
      grouped true true z w = refl
      grouped true false z w = refl
      grouped false y z w = refl

  station_takes : (machine.taken rules (view s) (event e) ≡ true) ↔ (run.answer_number s (run.event e) ≡ 0)
  station_takes = (
    λ t.
        let (b, p) = both _ _ (sym (drivable s fits e) ∙ t) in
        let (a, q) = both _ _ p in
        let (y, o) = both _ _ q in
        rw (event_is s e (fits, not-true _ b, not-true _ a, y, o)),
    λ z. let w = event_has s e z in drivable s fits e ∙ rw (w.1, w.2, w.3, w.4),
  )

  event_view : desk_view (desk_after d (desk.event e c)) ≡ machine.step numbered (desk_view d) (event (e, c))
  event_view = split (eqb (desk_answer_number d (desk.event e c)) 0)
      (λ t.
      let z = eqb-true (desk_answer_number d (desk.event e c)) 0 t in
      let (p, r) = (call.answered d (desk.event e c) (Ok tt)).0 z in
      let u = station_takes.1 p.1 in
      let there : machine.step rules (view s) (event e) ≡ machine.done rules (view s) (event e) = rw u in
      let here : machine.step numbered (desk_view d) (event (e, c)) ≡ machine.done numbered (desk_view d) (event (e, c)) =
      rw (taken_is, u, (brings_fine d e c).1 r) in
      ap desk_view (left_taken d (desk.event e c) z)
      ∙ ap₂ on_top (under_it.shows ∙ there) (moved_is d e c) ∙ sym here)
      (λ t.
      let n = eqb-false (desk_answer_number d (desk.event e c)) 0 t in
      let here : machine.taken numbered (desk_view d) (event (e, c)) ≡ false = off _ (λ u.
      let (v, w) = both (machine.taken rules (view s) (event e)) (brings e c d.numbers) (sym taken_is ∙ u) in
      n ((call.answered d (desk.event e c) (Ok tt)).1 ((f, station_takes.0 v), (brings_fine d e c).0 w))) in
      ap desk_view (refused_untouched d (desk.event e c) n) ∙ sym (rw here))

-- ---- what follows

-- the calls on the desk d follow the acts on the machine's station m
pub record Followed (k : ℕ) (l : List (Act (ℕ × ℕ))) (d : Desk) (m : machine.Station Garage Code) : Type 0 where
  pub fair : DeskFair d (map (as_desk k) l)
  pub replied : desk_replies d (map (as_desk k) l) ≡ machine-orders.replies numbered m l
  pub shows : desk_view (calls_desk d (map (as_desk k) l)) ≡ machine.run numbered m l

-- the machine's list is fair on another station that is the same
fair_at : (l : List (Act (ℕ × ℕ))) {m n : machine.Station Garage Code} → m ≡ n → machine-orders.Fair numbered n l → machine-orders.Fair numbered m l
fair_at l e F = subst (λ (m : machine.Station Garage Code). machine-orders.Fair numbered m l) (sym e) F

pub follows : (k : ℕ) (l : List (Act (ℕ × ℕ))) (d : Desk) → desk_fit d ≡ true → k ≡ present_issue d.station
    → machine-orders.Fair numbered (desk_view d) l → Followed k l d (desk_view d)
follows k [] d f p F = record { fair = tt; replied = refl; shows = refl }
follows k (result i o ∷ l) d f p F =
    let c = as_desk k (result i o) in
    let v = result_view d f k p i o F.0 F.1 in
    let N = follows k l (desk_after d c) (fit_kept d c f) (present_one k (result i o) d p) (fair_at l v F.2) in
    let M : Followed k l (desk_after d c) (machine.step numbered (desk_view d) (result i o)) = subst (Followed k l (desk_after d c)) v N in
    record {
      fair = (result_said d f k p i o F.0 F.1, (beneath d f k p i o F.0 F.1).fair.1, M.fair);
      replied = M.replied;
      shows = M.shows;
    }
follows k (event e ∷ l) d f p F =
    let c = as_desk k (event e) in
    let v = event_view d f e.0 e.1 in
    let N = follows k l (desk_after d c) (fit_kept d c f) (present_one k (event e) d p) (fair_at l v F) in
    let M : Followed k l (desk_after d c) (machine.step numbered (desk_view d) (event e)) = subst (Followed k l (desk_after d c)) v N in
    record { fair = M.fair; replied = ap₂ ◌∷◌ (event_answer d f e.0 e.1) M.replied; shows = M.shows }
