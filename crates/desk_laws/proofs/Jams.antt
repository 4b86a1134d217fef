-- For every choice of which stuck instructions did in fact finish: the numbers are those of the cars of the record with those applied, and
-- they are the same numbers. Assumes nothing.
use mathlib.Core.Path.{◌≡◌, refl, sym, ap, subst, ◌∙◌}
use mathlib.Core.Bool.{Bool, true}
use mathlib.Core.List.{List, [], ◌∷◌}
use Prim.Native.Nat.{ℕ}
use native.Mathlib.Omega.{arith}
use lib.ListN.{length}
use Rattle.bits.specs.Bits.{bit, digit, image}
use Rattle.bits.proofs.Cases.{and_intro, alike}
use Rattle.bits.proofs.Digits.{digit_one}
use Rattle.floor.proofs.Promises.{sound_exactly}
use Rattle.rules.specs.declared.Code.{Code}
use Rattle.any_order.proofs.Machine as machine
use Rattle.any_order.proofs.GoodOrder.{Good}
use Rattle.any_order.proofs.Jams as machine-jams
use Rattle.any_order.proofs.Jams.{Whichever}
use Rattle.any_order.proofs.Stuck.{good_whichever}
use Rattle.station.specs.declared.Station.{Station}
use Rattle.station.specs.Held.{held_next}
use Rattle.station_laws.specs.Jams.{jam_at, Picks, applied}
use Rattle.station_laws.proofs.Instance.{allowed_has}
use Rattle.station_laws.proofs.Link.{view, jams_of, Sane, fit_sane}
use Rattle.station_laws.proofs.Jammed.{sane_calls, picks_same}
use Rattle.cards.specs.Held.{code_cards, cards_fit, is_known}
use Rattle.cards_laws.proofs.Tested.{known_exactly}
use Rattle.cards_laws.proofs.Arrays.{fit_cards}
use Rattle.desk.specs.declared.Desk.{Desk}
use Rattle.desk.specs.Desk.{desk_fit}
use Rattle.desk_laws.specs.Runs.{DeskCall, calls_desk, DeskBegins, below, applied_cards, stuck_at, finished_record, finished_cards}
use Rattle.desk_laws.specs.Promises.{DeskAlways, WhicheverSame}
use Rattle.desk_laws.proofs.Calls.{fit_parts}
use Rattle.desk_laws.proofs.Fits.{fit_always, begins_fit, station_below}
use Rattle.desk_laws.proofs.Carrying.{code_known}
use Rattle.desk_laws.proofs.Instance.{Garage, numbered, parts, frame}

-- ---- the desk as a machine of the crate `sets`

-- a machine's station with numbers to its record, and a desk as one
abbrev pub on_top : machine.Station ℕ Code → List ℕ → machine.Station Garage Code
on_top m a = record { bits = (m.bits, a); set = m.set; answered = m.answered; away = m.away }

abbrev pub desk_view : Desk → machine.Station Garage Code
desk_view d = on_top (view d.station) d.numbers

-- it is in good order where the station is and the numbers fit
good_desk : (js : List Code) (s : Station) (a : List ℕ) → Sane js s → cards_fit s.bits a ≡ true
    → Good numbered (jams_of js) (on_top (view s) a)
good_desk js s a G f = record {
  sound = and_intro G.sound f;
  apart = G.apart;
  allowed = G.allowed;
  jammed = record { apart = G.jammed.apart; allowed = G.jammed.allowed };
  inside = G.inside;
  free = G.free;
}

-- the record and the numbers with some of them applied
applied_is : (js : List Code) (p : List ℕ) (r : ℕ) (a : List ℕ)
    → machine-jams.applied numbered (jams_of js) p (r, a) ≡ (applied js p r, applied_cards js p r a)
applied_is js [] r a = refl
applied_is js (i ∷ p) r a = applied_is js p (image (held_next (jam_at js i) (bit r))) (code_cards (jam_at js i) r a)

digit_same : (a b : Bool) → digit a ≡ digit b → a ≡ b
digit_same a b e = alike a b (λ t. digit_one b (rw (← e, t) (omega arith))) (λ t. digit_one a (rw (e, t) (omega arith)))

module _ (d : Desk) (b : DeskBegins d) (l : List DeskCall) where
  pub fits_now : desk_fit (calls_desk d l) ≡ true
  fits_now = fit_always l d (begins_fit d b)

  -- what is stuck, the station below knows
  pub sane_now : Sane (stuck_at d l) (calls_desk d l).station
  sane_now = subst (Sane (stuck_at d l)) (sym (station_below d b l))
      (sane_calls (below d l) [] d.station (fit_sane d.station (fit_parts d (begins_fit d b)).0))

  module _ (p : List ℕ) (h : Picks (length (stuck_at d l)) p) where
    pub whichever : Whichever numbered (jams_of (stuck_at d l)) (desk_view (calls_desk d l)) p
    whichever = good_whichever numbered _ _ frame _ _
        (good_desk (stuck_at d l) (calls_desk d l).station (calls_desk d l).numbers sane_now (fit_parts (calls_desk d l) fits_now).1) p (picks_same _ p h)

    pub finished_is : machine-jams.applied numbered (jams_of (stuck_at d l)) p ((calls_desk d l).station.bits, (calls_desk d l).numbers)
        ≡ (finished_record d l p, finished_cards d l p)
    finished_is = applied_is (stuck_at d l) p (calls_desk d l).station.bits (calls_desk d l).numbers

    finished_fits : numbered.sound (finished_record d l p, finished_cards d l p) ≡ true
    finished_fits = ap numbered.sound (sym finished_is) ∙ whichever.sound

    -- a number is known with those applied exactly if it is without
    finished_known : (c : ℕ) → (c ≡ 0 → ⊥) → is_known (finished_cards d l p) c ≡ is_known (calls_desk d l).numbers c
    finished_known c o = digit_same _ _
        (ap (λ (w : Garage). digit (is_known w.1 c)) (sym finished_is)
        ∙ whichever.cars (λ w. digit (is_known w.1 c)) (λ x w z t.
        let (s, f) = parts w z in ap digit (code_known x w.0 w.1 s f (allowed_has x w.0 t).0 c o)))

pub desk_always : DeskAlways
desk_always d b l p h =
    let (s, f) = parts (finished_record d l p, finished_cards d l p) (finished_fits d b l p h) in
    ((sound_exactly (finished_record d l p)).0 s, fit_cards (finished_record d l p) (finished_cards d l p) s f)

pub whichever_same : WhicheverSame
whichever_same d b l p h c o =
    let e = finished_known d b l p h c o in
    let x = finished_cards d l p in
    let y = (calls_desk d l).numbers in
    (λ k. (known_exactly y c o).0 (sym e ∙ (known_exactly x c o).1 k), λ k. (known_exactly x c o).0 (e ∙ (known_exactly y c o).1 k))
