-- An accepted set is safe in any order of its results, numbers and all: the numbered machine is, and the desk follows it. At the end the
-- station holds no set and no mark, so that equal records make equal stations, and with equal numbers equal desks. Assumes nothing.
use mathlib.Core.Path.{◌≡◌, sym, ap, ap₂, subst, subst₃, ◌∙◌}
use mathlib.Core.Logic.{inl, ⊎_elim}
use mathlib.Core.Bool.{Bool, true, cond, ◌||◌}
use mathlib.Core.List.{List, map}
use Prim.Native.Nat.{ℕ, ◌<◌}
use native.Mathlib.Omega.{arith}
use Rattle.bits.proofs.Cases.{and_intro}
use Rattle.rules.specs.declared.Code.{Code}
use Rattle.any_order.proofs.Machine as machine
use Rattle.any_order.proofs.Machine.{Act}
use Rattle.any_order.proofs.Orders as machine-orders
use Rattle.any_order.proofs.AnyOrder as machine-order
use Rattle.station.specs.declared.Station.{Station}
use Rattle.station.specs.Station.{present_issue, fit, closed, opened}
use Rattle.station_laws.specs.Orders.{Fate}
use Rattle.station_laws.specs.AnswersRight.{Acceptable}
use Rattle.station_laws.proofs.Apart.{away_of, away_same}
use Rattle.station_laws.proofs.Fits.{fit_has}
use Rattle.station_laws.proofs.Calls.{request_has, request_is}
use Rattle.station_laws.proofs.Link.{kept, request_accepted, request_view}
use Rattle.station_laws.proofs.Lists.{choice}
use Rattle.station_laws.proofs.AnyOrder.{Tidy, tidy_step}
use Rattle.std.specs.declared.result.Result.TheVariants.{Ok}
use Rattle.desk.specs.declared.Desk.{Desk}
use Rattle.desk.specs.Desk.{desk_fit}
use Rattle.desk_laws.specs.Runs as desk
use Rattle.desk_laws.specs.Runs.{DeskCall, desk_answer_number, desk_after, calls_desk}
use Rattle.desk_laws.specs.Orders.{DeskOrder, DeskAlike, desk_replies}
use Rattle.desk_laws.specs.Promises.{DeskAnyOrder}
use Rattle.desk_laws.proofs.Calls.{fit_parts, answered, left_taken}
use Rattle.desk_laws.proofs.Fits.{fit_kept, fit_always, begins_fit}
use Rattle.desk_laws.proofs.Instance.{Garage, numbered, frame}
use Rattle.desk_laws.proofs.Jams.{on_top, desk_view}
use Rattle.desk_laws.proofs.Follow.{as_desk, kept_along, next_along, follows}
use Rattle.desk_laws.proofs.Lists.{acts, order_acts, succeeds_is}
use Rattle.desk_laws.proofs.Ends.{Whole, whole_always, begins_whole, numbers_same, above, record_same, any_taken, above_end}

-- ---- what the machine says of two lists, the desk says

module _ (d : Desk) (f : desk_fit d ≡ true) (whole : Whole d) (tidy : Tidy d.station) (k : ℕ) (now : k ≡ present_issue d.station) where
  -- one list, which the machine ends with no set
  module _ (l : List (Act (ℕ × ℕ)))
      (e : let m = machine.run numbered (desk_view d) l in m ≡ machine.idle numbered m.bits m.away)
      (v : desk_view (calls_desk d (map (as_desk k) l)) ≡ machine.run numbered (desk_view d) l) where
    -- where the calls end
    abbrev end : Desk
    end = calls_desk d (map (as_desk k) l)

    end_none : end.station.count ≡ 0
    end_none = ap (λ (m : machine.Station Garage Code). m.set.size) (v ∙ e)

    end_closed : end.station ≡ closed end.station.bits d.station.next end.station.apart
    end_closed = ⊎_elim
        (λ (h : 0 < end.station.count). absurd (let z = end_none in omega arith))
        (λ t. t ∙ ap (λ (n : ℕ). closed end.station.bits n end.station.apart) (next_along k l d))
        (kept_along Tidy tidy_step k l d tidy)

    end_fit : fit end.station ≡ true
    end_fit = (fit_parts end (fit_always (map (as_desk k) l) d f)).0

    end_whole : Whole end
    end_whole = whole_always (map (as_desk k) l) d whole

  alike : (n : ℕ) (chosen : ℕ → machine.Outcome) (es : List (ℕ × ℕ)) (l m : List (Act (ℕ × ℕ)))
      → machine-orders.Order n chosen es l → machine-orders.Order n chosen es m
      → machine-orders.Alike numbered (desk_view d) l m → DeskAlike d (map (as_desk k) l) (map (as_desk k) m)
  alike n chosen es l m P Q A =
      let L = follows k l d f now A.fair.0 in
      let M = follows k m d f now A.fair.1 in
      let x : Desk = end l A.closed.0 L.shows in
      let y : Desk = end m A.closed.1 M.shows in
      let replied : desk_replies d (map (as_desk k) l) ≡ desk_replies d (map (as_desk k) m) = L.replied ∙ A.replies ∙ sym M.replied in
      let looks : (j : ℕ) → j < 64 → numbered.look (desk_view x).bits j ≡ numbered.look (desk_view y).bits j =
      (λ j h. ap (λ (u : machine.Station Garage Code). numbered.look u.bits j) L.shows ∙ A.bits j h
      ∙ sym (ap (λ (u : machine.Station Garage Code). numbered.look u.bits j) M.shows)) in
      let over : above x.station.bits ≡ above y.station.bits =
      above_end k l d L.fair
      ∙ ap₂ (λ (s t : Bool). cond (s || t) 0 (above d.station.bits))
      (succeeds_is n chosen es l P ∙ sym (succeeds_is n chosen es m Q)) (ap any_taken replied)
      ∙ sym (above_end k m d M.fair) in
      let same : x.station.bits ≡ y.station.bits = record_same _ _ over (λ j h. ap (λ w. w.0) (looks j h)) in
      let gone : x.station.apart ≡ y.station.apart =
      away_same _ _ (fit_has _ (end_fit l A.closed.0 L.shows)).within (fit_has _ (end_fit m A.closed.1 M.shows)).within (λ j.
      ap (λ (u : machine.Station Garage Code). u.away j) L.shows ∙ A.away j
      ∙ sym (ap (λ (u : machine.Station Garage Code). u.away j) M.shows)) in
      let stations : x.station ≡ y.station =
      end_closed l A.closed.0 L.shows ∙ ap₂ (λ (r a : ℕ). closed r d.station.next a) same gone
      ∙ sym (end_closed m A.closed.1 M.shows) in
      let numbers : x.numbers ≡ y.numbers =
      numbers_same _ _ (end_whole l A.closed.0 L.shows) (end_whole m A.closed.1 M.shows) (λ j h. ap (λ w. w.1) (looks j h)) in
      record {
        fair = (L.fair, M.fair);
        answered = replied;
        closed = (end_none l A.closed.0 L.shows, end_none m A.closed.1 M.shows);
        same = ap₂ (λ (s : Station) (a : List ℕ). record { station = s; numbers = a }) stations numbers;
      }

-- ---- the promise

-- of a fit desk that takes a request
module _ (t : Desk) (f : desk_fit t ≡ true) (whole : Whole t) (n : ℕ) (set : List ℕ) (z : desk_answer_number t (desk.request n set) ≡ 0) where
  A : Acceptable t.station n set
  A = request_has t.station n set ((answered t (desk.request n set) (Ok tt)).0 z).0.1

  -- the desk that holds the set
  abbrev holds : Desk
  holds = record { station = opened t.station n set; numbers = t.numbers }

  there : desk_after t (desk.request n set) ≡ holds
  there =
      left_taken t (desk.request n set) z
      ∙ ap (λ o. record { station = o.station; numbers = t.numbers }) (request_is t.station n set A)

  holds_view : desk_view holds ≡ machine.opened (kept t.station n set A) (t.station.bits, t.numbers) (away_of t.station.apart)
  holds_view = ap (λ (m : machine.Station ℕ Code). on_top m t.numbers) (request_view t.station n set A)

  holds_fit : desk_fit holds ≡ true
  holds_fit = subst (λ (d : Desk). desk_fit d ≡ true) there (fit_kept t (desk.request n set) f)

  set_alike : (fate : ℕ → Fate) (drives : List (ℕ × ℕ)) (l m : List DeskCall) → let s = desk_after t (desk.request n set) in
      DeskOrder (present_issue s.station) n fate drives l → DeskOrder (present_issue s.station) n fate drives m → DeskAlike s l m
  set_alike fate drives l m P Q =
      let k = present_issue (desk_after t (desk.request n set)).station in
      let (a, p) = acts k fate l P.order.chosen in
      let (b, q) = acts k fate m Q.order.chosen in
      let O = order_acts k n fate drives a (subst (DeskOrder k n fate drives) p P) in
      let U = order_acts k n fate drives b (subst (DeskOrder k n fate drives) q Q) in
      let (s, c) = fit_parts t f in
      let T = machine-order.any_order numbered _ _ frame (kept t.station n set A)
      (t.station.bits, t.numbers) (away_of t.station.apart) (and_intro (fit_has t.station s).sound c)
      (request_accepted t.station n set A) (choice k fate) drives a b O U in
      let W : machine-orders.Alike numbered (desk_view holds) a b = rw holds_view T in
      subst₃ DeskAlike (sym there) (sym p) (sym q)
      (alike holds holds_fit whole (inl A.orderly.readable.some) k (ap (λ (d : Desk). present_issue d.station) there) n (choice k fate) drives a b O U W)

pub desk_any_order : DeskAnyOrder
desk_any_order d b before n set z =
    set_alike (calls_desk d before) (fit_always before d (begins_fit d b)) (whole_always before d (begins_whole d b)) n set z
