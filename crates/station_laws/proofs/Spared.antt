-- What touches a part that is set apart is refused, with 32 and the least such place; and nothing that is taken has a place in common with
-- what is stuck. Assumes nothing.
use mathlib.Core.Path.{◌≡◌, ap, subst, ◌∙◌}
use mathlib.Core.Logic.{◌⊎◌, inl, inr}
use mathlib.Core.Bool.{true, false}
use mathlib.Core.List.{List, []}
use Prim.Native.Nat.{ℕ, ◌≤◌, ◌<◌}
use native.Mathlib.Omega.{arith}
use lib.Dec.{eqb, ltb}
use lib.ListN.{length}
use borrow.Author.Tests.{lt-ltb, le-ltb, ne_eqb}
use Rattle.bits.specs.Places.{elem, share}
use Rattle.bits.specs.Search.{least, IsLeast}
use Rattle.bits.proofs.Cases.{split, clash, off, T→true, true→T}
use Rattle.bits.proofs.Least.{least_is}
use Rattle.bits.proofs.Lists.{in_left}
use Rattle.bits.proofs.Sharing.{share_at}
use Rattle.floor.specs.Floor.{lift, drives}
use Rattle.rules.specs.declared.Code.{Code}
use Rattle.rules.specs.Codes.{most_in_set}
use Rattle.answers.specs.declared.Answer.TheVariants.{SetApart}
use Rattle.answers.specs.Answers.{number_of, place_of}
use Rattle.any_order.proofs.Facts.{meets_clear}
use Rattle.station.specs.declared.Station.{Station}
use Rattle.station.specs.declared.Outcome.{Outcome}
use Rattle.station.specs.Held.{code_at, held_area, bad, overlaps_earlier, barred, why_not, touches, crosses_drive}
use Rattle.station.specs.Station.{fit}
use Rattle.station.specs.Calls as station
use Rattle.station.proofs.Areas.{held_small}
use Rattle.station_laws.specs.Runs as run
use Rattle.station_laws.specs.Runs.{Call, answer_number, calls}
use Rattle.station_laws.specs.Jams.{stuck, jam_at}
use Rattle.station_laws.specs.AnswersRight.{Readable, ClearOfDrives, ApartRefused}
use Rattle.station_laws.specs.SafeInAnyOrder.{NothingMeetsAJam}
use Rattle.station_laws.proofs.Reach.{in_area_lem, clear_has, clear_is}
use Rattle.station_laws.proofs.Instance.{rules}
use Rattle.station_laws.proofs.Apart.{away_of, meets_touched, lost_lift}
use Rattle.station_laws.proofs.Reasons.{why_number, least_fault}
use Rattle.station_laws.proofs.Calls.{either, no_fault, request_has, event_has, readable_of, none_bad}
use Rattle.station_laws.proofs.Link.{fit_sane}
use Rattle.station_laws.proofs.Jammed.{sane_calls, none_stuck}

-- ---- refused with 32

module _ (s : Station) (n : ℕ) (set : List ℕ) (p : ℕ) where
  -- what is refused so
  record Met : Type 0 where
    readable : Readable s n set
    clear : ClearOfDrives s n set
    first : IsLeast n (touches set s.apart) p

  -- an outcome that is told 32 at this place
  record Said (o : Outcome) : Type 0 where
    then : number_of o.answer ≡ 32 → place_of o.answer ≡ p → Met

  other : {o : Outcome} → (number_of o.answer ≡ 32 → ⊥) → Said o
  other unlike = record { then = λ e q. absurd (unlike e) }

  -- no reason has that number
  why_other : ltb (least n (barred set s.bits)) n ≡ true → number_of (why_not set s.bits (least n (barred set s.bits))) ≡ 32 → ⊥
  why_other t = go (why_number set s.bits (least n (barred set s.bits)) (least_fault n (barred set s.bits) t).passes)
    where
      go : {k : ℕ} → (k ≡ 4) ⊎ ((20 ≤ k) × (k ≤ 28)) → k ≡ 32 → ⊥
      go (inl h) z = omega arith
      go (inr h) z = omega (arith, h.1)

  request_said : Said (station.request s n set)
  unfolding station.request station.requested station.cleared station.spared station.accepted
  request_said =
      either Said (fit s) (λ a.
      either Said (ltb 0 s.count) (λ t. other (λ z. omega arith)) (λ b.
      either Said (ltb most_in_set n) (λ t. other (λ z. omega arith)) (λ c.
      either Said (eqb n 0) (λ t. other (λ z. omega arith)) (λ d.
      either Said (ltb (least n (bad set)) n) (λ t. other (λ z. omega arith)) (λ f.
      either Said (crosses_drive s.bits set n) (λ t. other (λ z. omega arith)) (λ x.
      either Said (ltb (least n (touches set s.apart)) n)
      (λ t. record {
        then = λ z q. record {
          readable = readable_of s n set a b c d f;
          clear = clear_has s.bits set n x;
          first = subst (IsLeast n (touches set s.apart)) q (least_fault n (touches set s.apart) t);
        };
      }) (λ y.
      either Said (ltb (least n (overlaps_earlier set)) n) (λ t. other (λ z. omega arith)) (λ g.
      either Said (ltb (least n (barred set s.bits)) n) (λ t. other (why_other t)) (λ h.
      other (λ z. omega arith)))))))))) (λ a. other (λ z. omega arith))

  -- the other direction
  request_met : Met → station.request s n set ≡ station.refused s (SetApart p)
  unfolding station.request station.requested station.cleared station.spared
  request_met M =
      let R = M.readable in
      let L = M.first in
      let at : least n (touches set s.apart) ≡ p = least_is n p (touches set s.apart) L.within L.none L.passes in
      rw (
        R.fits,
        le-ltb 0 s.count (let z = R.idle in omega arith),
        le-ltb most_in_set n R.few,
        ne_eqb n 0 (λ z. (let l = R.some in omega arith)),
        no_fault n (bad set) (none_bad s n set R),
        clear_is s.bits set n M.clear,
        at,
        lt-ltb p n L.within,
      )

pub apart_refused : ApartRefused
apart_refused s n set p = (
  λ z. let M = (request_said s n set p).then z.0 z.1 in (M.readable, M.clear, M.first),
  λ h. let e = request_met s n set p record { readable = h.0; clear = h.1; first = h.2 } in
      (ap (λ (o : Outcome). number_of o.answer) e, ap (λ (o : Outcome). place_of o.answer) e),
)

-- ---- nothing that is taken meets a jam

-- a place of what is stuck is set apart
module _ (s : Station) (f : fit s ≡ true) (l : List Call) (j : ℕ) (h : j < length (stuck s l)) where
  abbrev jam : Code
  jam = jam_at (stuck s l) j

  jam_away : (k : ℕ) → elem k (held_area jam) ≡ true → away_of (calls s l).apart k ≡ true
  jam_away k m = (sane_calls l [] s (fit_sane s f)).inside j h k (held_small jam k m) (in_area_lem jam k m)

  beside_request : (n : ℕ) (set : List ℕ) → answer_number (calls s l) (run.request n set) ≡ 0 → (i : ℕ) → i < n → share (held_area (code_at set i)) (held_area jam) ≡ false
  unfolding touches
  beside_request n set z i b = off _ (λ e.
      let (k, p, q) = share_at (held_area (code_at set i)) (held_area jam) e in
      let x = code_at set i in
      let A = request_has (calls s l) n set z in
      clash (jam_away k q) (meets_clear rules (rules.area x) (away_of (calls s l).apart) (meets_touched x (calls s l).apart ∙ A.orderly.spared i b) k (held_small x k p) (in_area_lem x k p)))

  beside_event : (e : ℕ) → answer_number (calls s l) (run.event e) ≡ 0 → share (held_area jam) lift ≡ false
  beside_event e z = off _ (λ u.
      let (k, p, q) = share_at (held_area jam) lift u in
      clash (jam_away k p) (meets_clear rules rules.lift (away_of (calls s l).apart) (lost_lift (calls s l).apart ∙ (event_has (calls s l) e z).2) k (held_small jam k p) (in_lift k q)))
    where
      in_lift : (k : ℕ) → elem k lift ≡ true → rules.lift k ≡ true
      in_lift k q = T→true (rules.lift k) (in_left k lift drives (true→T q))

pub nothing_meets_a_jam : NothingMeetsAJam
nothing_meets_a_jam s l j h = split (fit s)
    (λ f. (beside_request s f l j h, beside_event s f l j h))
    (λ f. absurd (let e = ap length (none_stuck l s f).0 in omega arith))
