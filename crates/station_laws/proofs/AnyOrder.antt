-- An accepted set is safe in any order of its results: the machine is, and the station follows it. At the end the station holds no set
-- and no mark, so that equal records make equal stations. Assumes nothing.
use mathlib.Core.Path.{◌≡◌, refl, sym, ap, ap₂, subst, subst₃, ◌∙◌}
use mathlib.Core.Logic.{◌⊎◌, inl, inr, ⊎_elim}
use mathlib.Core.Bool.{Bool, true}
use mathlib.Core.List.{List, map}
use Prim.Native.Nat.{ℕ, ◌<◌}
use native.Mathlib.Omega.{arith}
use Rattle.bits.specs.Bits.{bit}
use Rattle.bits.proofs.Digits.{bit_ext}
use Rattle.rules.specs.declared.Code.{Code}
use Rattle.any_order.proofs.Machine as machine
use Rattle.any_order.proofs.Machine.{Act}
use Rattle.any_order.proofs.Orders as machine-orders
use Rattle.any_order.proofs.AnyOrder as machine-order
use Rattle.station.specs.declared.Station.{Station}
use Rattle.station.specs.Station.{present_issue, fit, closed, holding, opened, answering}
use Rattle.station_laws.specs.Runs as run
use Rattle.station_laws.specs.Runs.{Call, station_after, calls}
use Rattle.station_laws.specs.Orders.{Order, Alike}
use Rattle.station_laws.specs.SafeInAnyOrder.{AnyOrder}
use Rattle.station_laws.proofs.Instance.{rules, seen_of, cars_in, framed}
use Rattle.station_laws.proofs.Apart.{away_of, away_same}
use Rattle.station_laws.proofs.Fits.{fit_has, fit_opened, after_result}
use Rattle.station_laws.proofs.Calls.{request_has, request_is}
use Rattle.station_laws.proofs.Steps.{Step, refuses, opens, fails, succeeds, sticks, drives, tells, along, reached}
use Rattle.station_laws.proofs.Always.{begins_has, fit_always, Small, small_step}
use Rattle.station_laws.proofs.Link.{view, kept, request_accepted, request_view}
use Rattle.station_laws.proofs.Lists.{as_call, no_images_lem, choice, acts, order_heard}
use Rattle.station_laws.proofs.Follow.{follows, next_kept}

-- ---- a station with no instruction has nothing else either

abbrev pub Tidy : Station → Type 0
Tidy s = (0 < s.count) ⊎ (s ≡ closed s.bits s.next s.apart)

tidy_answering : (s : Station) (i r apart : ℕ) → i < s.count → Tidy (answering s i r apart)
tidy_answering s i r apart h = after_result Tidy s i r apart (λ t. inr refl) (λ t. inl (omega arith))

pub tidy_step : (s t : Station) (c : Call) → Step s c t → Tidy s → Tidy t
tidy_step s t c (refuses n) d = d
tidy_step s t c (opens A) d = inl A.orderly.readable.some
tidy_step s t c (fails {i} w) d = tidy_answering s i _ _ w.1
tidy_step s t c (succeeds {i} p w a) d = tidy_answering s i _ _ w.1
tidy_step s t c (sticks {i} p w) d = tidy_answering s i _ _ w.1
tidy_step s t c (drives x) d = ⊎_elim inl (λ e. inr (ap (λ (u : Station). holding u t.bits) e)) d
tidy_step s t c tells d = d

-- ---- what the machine says of two lists, the station says

module _ (s : Station) (f : fit s ≡ true) (small : Small s) (tidy : Tidy s) (k : ℕ) (now : k ≡ present_issue s) where
  module _ (l : List (Act ℕ)) (e : machine.run rules (view s) l ≡ machine.idle rules (machine.run rules (view s) l).bits (machine.run rules (view s) l).away)
      (v : view (calls s (map (as_call k) l)) ≡ machine.run rules (view s) l) where
    -- where the calls end
    abbrev end : Station
    end = calls s (map (as_call k) l)

    end_none : end.count ≡ 0
    end_none = ap (λ (a : machine.Station ℕ Code). a.set.size) (v ∙ e)

    end_closed : end ≡ closed end.bits s.next end.apart
    end_closed = ⊎_elim (λ h. absurd (let z = end_none in omega arith))
        (λ t. t ∙ ap (λ (n : ℕ). closed end.bits n end.apart) (next_kept k l s))
        (along Tidy tidy_step (map (as_call k) l) (no_images_lem k l) s tidy)

    -- what is set apart is told by the machine
    end_away : away_of end.apart ≡ (machine.run rules (view s) l).away
    end_away = ap (λ (a : machine.Station ℕ Code). a.away) v

    end_fit : fit end ≡ true
    end_fit = fit_always (map (as_call k) l) s f

    end_small : Small end
    end_small = along Small small_step (map (as_call k) l) (no_images_lem k l) s small

  alike : (l m : List (Act ℕ)) → machine-orders.Alike rules (view s) l m → Alike s (map (as_call k) l) (map (as_call k) m)
  alike l m A =
      let L = follows k l s f now A.fair.0 in
      let M = follows k m s f now A.fair.1 in
      let same : (end l A.closed.0 L.shows).bits ≡ (end m A.closed.1 M.shows).bits =
      bit_ext 64 _ _ (end_small l A.closed.0 L.shows) (end_small m A.closed.1 M.shows) (λ k h.
      ap (λ (a : machine.Station ℕ Code). bit a.bits k) L.shows ∙ A.bits k h ∙ sym (ap (λ (a : machine.Station ℕ Code). bit a.bits k) M.shows)) in
      let gone : (end l A.closed.0 L.shows).apart ≡ (end m A.closed.1 M.shows).apart =
      away_same _ _ (fit_has _ (end_fit l A.closed.0 L.shows)).within (fit_has _ (end_fit m A.closed.1 M.shows)).within (λ k.
      ap (λ (g : ℕ → Bool). g k) (end_away l A.closed.0 L.shows) ∙ A.away k ∙ sym (ap (λ (g : ℕ → Bool). g k) (end_away m A.closed.1 M.shows))) in
      record {
        fair = (L.fair, M.fair);
        answered = L.replied ∙ A.replies ∙ sym M.replied;
        closed = (end_none l A.closed.0 L.shows, end_none m A.closed.1 M.shows);
        same = end_closed l A.closed.0 L.shows ∙ ap₂ (λ (r a : ℕ). closed r s.next a) same gone ∙ sym (end_closed m A.closed.1 M.shows);
      }

-- ---- the demand

pub any_order : AnyOrder
any_order s R n set e chosen events l m P Q =
    let A = request_has s n set e in
    let k = present_issue (station_after s (run.request n set)) in
    let (a, p) = acts k chosen l P.chosen in
    let (b, q) = acts k chosen m Q.chosen in
    let O = order_heard k (subst (Order k n chosen events) p P) in
    let U = order_heard k (subst (Order k n chosen events) q Q) in
    let small : Small s = reached Small small_step (λ t b. (begins_has t b).2) s R in
    let T = machine-order.any_order rules seen_of cars_in framed (kept s n set A) s.bits (away_of s.apart)
    (fit_has s A.orderly.readable.fits).sound (request_accepted s n set A) (choice k chosen) events a b O U in
    let W : machine-orders.Alike rules (view (opened s n set)) a b = rw (request_view s n set A) T in
    let there : station_after s (run.request n set) ≡ opened s n set = ap (λ o. o.station) (request_is s n set A) in
    subst₃ Alike (sym there) (sym p) (sym q)
    (alike (opened s n set) (fit_opened s n set A) small (inl A.orderly.readable.some) k (ap present_issue there) a b W)
