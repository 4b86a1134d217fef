-- The station follows the machine from act to act, as long as the machine's list is fair: it takes each result, answers each event as the
-- machine does, and shows the machine's station at the end. Assumes nothing.
use mathlib.Core.Path.{◌≡◌, refl, sym, ap, ap₂, subst, subst₂, ◌∙◌}
use mathlib.Core.Bool.{Bool, true, not, ◌&&◌}
use mathlib.Core.List.{List, [], ◌∷◌, map}
use Prim.Native.Nat.{ℕ, ◌+◌, ◌%◌}
use native.Mathlib.Omega.{arith}
use lib.Dec.{ltb}
use borrow.Author.Tests.{ltb-true, not-true}
use Rattle.bits.specs.Bits.{bit}
use Rattle.bits.proofs.Cases.{split, clash, both}
use Rattle.rules.specs.declared.Code.{Code}
use Rattle.rules.specs.Codes.{read_event}
use Rattle.any_order.proofs.Machine as machine
use Rattle.any_order.proofs.Machine.{Outcome, failed, finished, stuck, moves, Act, result, event}
use Rattle.any_order.proofs.Orders as machine-orders
use Rattle.station.specs.declared.Station.{Station}
use Rattle.station.specs.Held.{code_at, held_allowed, lift_in, lift_apart}
use Rattle.station.specs.Station.{present_issue, fit, marked}
use Rattle.station.specs.Calls.{taken}
use Rattle.station_laws.specs.Runs as run
use Rattle.station_laws.specs.Runs.{call, answer_number, station_after, calls}
use Rattle.station_laws.specs.Orders.{Fair, replies}
use Rattle.station_laws.specs.AnswersRight.{Waiting}
use Rattle.station_laws.proofs.Instance.{rules, possible_as, open_as, allowed_has}
use Rattle.station_laws.proofs.Calls.{success_is, failure_is, stuck_is, event_has, event_is, event_number}
use Rattle.station_laws.proofs.EachCall.{untouched}
use Rattle.station_laws.proofs.Steps.{steps}
use Rattle.station_laws.proofs.Issues.{in_turn}
use Rattle.station_laws.proofs.Always.{fit_step}
use Rattle.station_laws.proofs.Apart.{lost_lift}
use Rattle.station_laws.proofs.Link.{view, blocked_lift, drivable, resulted, result_view}
use Rattle.station_laws.proofs.Lists.{ending, as_call}

-- ---- a result that the machine takes

result_is : (s : Station) (k i : ℕ) (o : Outcome) → k ≡ present_issue s → Waiting s i → call s (run.result_call k i (ending o)) ≡ taken (resulted s i o)
result_is s k i failed p w = failure_is s k i p w
result_is s k i finished p w = success_is s k i p w
result_is s k i stuck p w = stuck_is s k i p w

-- only a success is told as 1
told_moves : (o : Outcome) → ending o ≡ 1 → moves o ≡ true
told_moves failed e = absurd (omega arith)
told_moves finished e = refl
told_moves stuck e = absurd (omega arith)

-- ---- an event

module _ (s : Station) (f : fit s ≡ true) (e : ℕ) where
  -- the set has the lift in its areas; no part of it is set apart, the event is possible and leaves the places open that are kept so
  abbrev blocked : Bool
  blocked = lift_in s.set s.count

  abbrev can : Bool
  can = not (lift_apart s.apart) && (possible_as (read_event e) s.bits && open_as (read_event e) s.bits)

  event_view : view (station_after s (run.event e)) ≡ machine.step rules (view s) (event e)
  event_view = split (not blocked && can)
      (λ t. let (b, p) = both (not blocked) can t in
      let (a, h) = both (not (lift_apart s.apart)) _ p in
      let (c, o) = both (possible_as (read_event e) s.bits) (open_as (read_event e) s.bits) h in
      let q = event_is s e (f, not-true blocked b, not-true _ a, c, o) in
      rw (drivable s f e, t) (ap (λ o. view o.station) q))
      (λ t. rw (drivable s f e, t) (ap view (untouched s (run.event e) (λ z. let d = event_has s e z in clash refl (rw (d.1, d.2, d.3, d.4) at t)))))

  event_answer : answer_number s (run.event e) ≡ machine.says rules (view s) e
  event_answer = rw (blocked_lift s f, lost_lift s.apart) (event_number s e f)

-- ---- what follows

-- results and events keep the issue of the next set
pub next_kept : (k : ℕ) (l : List (Act ℕ)) (s : Station) → (calls s (map (as_call k) l)).next ≡ s.next
next_kept k [] s = refl
next_kept k (result i o ∷ l) s = next_kept k l (station_after s (run.result_call k i (ending o))) ∙ (in_turn s (run.result_call k i (ending o))).1
next_kept k (event e ∷ l) s = next_kept k l (station_after s (run.event e)) ∙ (in_turn s (run.event e)).1

-- so the present one is the same
present_kept : (k : ℕ) (s : Station) (a : Act ℕ) → k ≡ present_issue s → k ≡ present_issue (station_after s (as_call k a))
present_kept k s a e = e ∙ ap (λ (n : ℕ). (n + 65535) % 65536) (sym (next_kept k (a ∷ []) s))

-- the calls on the station s follow the acts on the machine's station a
pub record Followed (k : ℕ) (l : List (Act ℕ)) (s : Station) (a : machine.Station ℕ Code) : Type 0 where
  pub fair : Fair s (map (as_call k) l)
  pub replied : replies s (map (as_call k) l) ≡ machine-orders.replies rules a l
  pub shows : view (calls s (map (as_call k) l)) ≡ machine.run rules a l

-- the machine's list is fair on another station that is the same
fair_at : (l : List (Act ℕ)) {a b : machine.Station ℕ Code} → a ≡ b → machine-orders.Fair rules b l → machine-orders.Fair rules a l
fair_at l e F = subst (λ (a : machine.Station ℕ Code). machine-orders.Fair rules a l) (sym e) F

-- a result, and what follows it
module _ (s : Station) (f : fit s ≡ true) (k : ℕ) (p : k ≡ present_issue s) (i : ℕ) (o : Outcome) (l : List (Act ℕ)) (F : machine-orders.Fair rules (view s) (result i o ∷ l)) where
  waits : Waiting s i
  waits = let (h, m) = both (ltb i s.count) (not (marked s i)) F.0 in (f, ltb-true i s.count h, not-true (marked s i) m)

  allowed_now : moves o ≡ true → held_allowed (code_at s.set i) (bit s.bits) ≡ true
  allowed_now m = (allowed_has (code_at s.set i) s.bits (F.1 m)).0

  -- the station after it
  abbrev now : Station
  now = resulted s i o

  now_is : station_after s (run.result_call k i (ending o)) ≡ now
  now_is = ap (λ o. o.station) (result_is s k i o p waits)

  now_fit : fit now ≡ true
  now_fit = subst (λ (t : Station). fit t ≡ true) now_is (fit_step s _ _ (steps s (run.result_call k i (ending o)) tt) f)

  now_view : view now ≡ machine.step rules (view s) (result i o)
  now_view = result_view s i o waits

  with_result : Followed k l now (view now) → Followed k (result i o ∷ l) s (view s)
  with_result N =
      let M : Followed k l (station_after s (run.result_call k i (ending o))) (machine.step rules (view s) (result i o)) = subst₂ (Followed k l) (sym now_is) now_view N in
      record { fair = (rw (result_is s k i o p waits), (λ d. allowed_now (told_moves o d)), M.fair); replied = M.replied; shows = M.shows }

pub follows : (k : ℕ) (l : List (Act ℕ)) (s : Station) → fit s ≡ true → k ≡ present_issue s → machine-orders.Fair rules (view s) l → Followed k l s (view s)
follows k [] s f p F = record { fair = tt; replied = refl; shows = refl }
follows k (result i o ∷ l) s f p F =
    let present-now = present_kept k s (result i o) p ∙ ap present_issue (now_is s f k p i o l F) in
    with_result s f k p i o l F
    (follows k l (now s f k p i o l F) (now_fit s f k p i o l F) present-now (fair_at l (now_view s f k p i o l F) F.2))
follows k (event e ∷ l) s f p F =
    let v = event_view s f e in
    let t : Station = station_after s (run.event e) in
    let N = follows k l t (fit_step s t (run.event e) (steps s (run.event e) tt) f) (present_kept k s (event e) p) (fair_at l v F) in
    let M : Followed k l t (machine.step rules (view s) (event e)) = subst (Followed k l t) v N in
    record { fair = M.fair; replied = ap₂ ◌∷◌ (event_answer s f e) M.replied; shows = M.shows }
