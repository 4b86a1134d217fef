-- What is set apart is exactly the areas of what is stuck: each call keeps it so, place by place. Assumes nothing.
use mathlib.Core.Path.{◌≡◌, refl, sym, ap, ◌∙◌}
use mathlib.Core.Bool.{Bool, true, false, cond, ◌||◌, or_comm}
use mathlib.Core.List.{List, [], ◌∷◌}
use Prim.Native.Nat.{ℕ, zero, suc, ◌<◌}
use native.Mathlib.Omega.{arith}
use lib.Dec.{eqb, ltb}
use lib.ListN.{length}
use borrow.Author.Tests.{eqb-true, eqb-false, ne_eqb, ltb-true, ltb-false, le-ltb}
use Rattle.bits.specs.Bits.{bit}
use Rattle.bits.proofs.Cases.{split, clash}
use Rattle.bits.proofs.Digits.{bit_image, bit_none, bit_past, packed_lt}
use Rattle.bits.proofs.Operations.{bit_or_lem}
use Rattle.rules.specs.declared.Code.{Code}
use Rattle.station.specs.declared.Station.{Station}
use Rattle.station.specs.Held.{code_at, held_area, parts_in, held_parts}
use Rattle.station.specs.Station.{apart_with}
use Rattle.station_laws.specs.Runs as run
use Rattle.station_laws.specs.Runs.{Call, answer_number, station_after, calls, Begins, at_start, by_image}
use Rattle.station_laws.specs.Jams.{jammed, jams, jam_at}
use Rattle.station_laws.specs.Recovery.{ApartExactly}
use Rattle.station_laws.proofs.Calls.{following, answering_apart, stuck_is, image_has, image_is}
use Rattle.station_laws.proofs.EachCall.{untouched}
use Rattle.station_laws.proofs.Steps.{Step, refuses, opens, fails, succeeds, sticks, drives, tells, steps}

-- ---- one instruction's parts

-- the number that shows them has them at every place, also past its bits
parts_at_lem : (x : Code) (k : ℕ) → bit (held_parts x) k ≡ parts_in (held_area x) k
unfolding held_parts parts_in
parts_at_lem x k = split (ltb k 64)
    (λ t. bit_image (parts_in (held_area x)) k (ltb-true k 64 t))
    (λ t. let h = ltb-false k 64 t in
    bit_past (held_parts x) 64 k (packed_lt 64 0 (parts_in (held_area x))) h
    ∙ sym (rw (le-ltb k 52 (omega arith), ne_eqb k 52 (λ e. omega arith))))

-- ---- the parts of some

-- a place is in one of them
among : List Code → ℕ → Bool
among [] k = false
among (x ∷ js) k = parts_in (held_area x) k || among js k

-- which, by its number
among_at : (js : List Code) (k : ℕ) → among js k ≡ true → (j : ℕ) × (j < length js) × (parts_in (held_area (jam_at js j)) k ≡ true)
unfolding among
among_at [] k e = clash e refl
among_at (x ∷ js) k e = split (parts_in (held_area x) k)
    (λ p. (0, (omega arith), p))
    (λ p. let (j, h, q) = among_at js k (rw p at e) in (suc j, (omega arith), q))

at_among : (js : List Code) (k j : ℕ) → j < length js → parts_in (held_area (jam_at js j)) k ≡ true → among js k ≡ true
unfolding among
at_among [] k j h e = absurd (omega arith)
at_among (x ∷ js) k zero h e = rw e
at_among (x ∷ js) k (suc j) h e = or_true_r (parts_in (held_area x) k) (at_among js k j (omega arith) e)
  where
    or_true_r : (a : Bool) {b : Bool} → b ≡ true → a || b ≡ true
    or_true_r true e = refl
    or_true_r false e = e

-- ---- each call keeps it so

-- what is set apart is the parts of these
abbrev Shows : List Code → Station → Type 0
Shows js s = (k : ℕ) → bit s.apart k ≡ among js k

module _ (js : List Code) (s : Station) (P : Shows js s) where
  -- a call that is not stuck keeps what is
  same : (b : Bool) → cond b js js ≡ js
  same true = refl
  same false = refl

  -- one more is stuck
  one_more : (i : ℕ) → (k : ℕ) → bit (apart_with s i) k ≡ among (code_at s.set i ∷ js) k
  unfolding among
  one_more i k =
      let x = code_at s.set i in
      bit_or_lem s.apart (held_parts x) k ∙ rw (P k, parts_at_lem x k) (or_comm (among js k) (parts_in (held_area x) k))

  shows_step : (t : Station) (c : Call) → Step s c t → Shows (jammed s c js) t
  shows_step t c (refuses n) = rw (ne_eqb (answer_number s c) 0 n) P
  shows_step t c (opens {n} {set} A) = rw (same (eqb (answer_number s (run.request n set)) 0)) P
  shows_step t c (fails {i} {k} w) = rw (same (eqb (answer_number s (run.result_call k i 0)) 0), answering_apart s i s.bits s.apart) P
  shows_step t c (succeeds {i} {k} p w a) = rw (same (eqb (answer_number s (run.result_call k i 1)) 0), answering_apart s i (following s i) s.apart) P
  shows_step t c (sticks {i} {k} p w) =
      let z : answer_number s (run.result_call k i 2) ≡ 0 = rw (stuck_is s k i p w) in
      rw (z, answering_apart s i s.bits (apart_with s i)) (one_more i)
  shows_step t c (drives {e} d) = rw (same (eqb (answer_number s (run.event e)) 0)) P
  shows_step t c tells = rw (same (eqb (answer_number s run.ask) 0)) P

  -- an image that is accepted clears it, and leaves none stuck
  shows_call : (c : Call) → Shows (jammed s c js) (station_after s c)
  unfolding among
  shows_call (run.request n set) = shows_step _ _ (steps s (run.request n set) tt)
  shows_call (run.reports r) = shows_step _ _ (steps s (run.reports r) tt)
  shows_call (run.event e) = shows_step _ _ (steps s (run.event e) tt)
  shows_call run.ask = shows_step _ _ (steps s run.ask tt)
  shows_call (run.pictures p) = split (eqb (answer_number s (run.pictures p)) 0)
      (λ t. rw (t, ap (λ o. o.station) (image_is s p.bits p.apart (image_has s p.bits p.apart (eqb-true _ 0 t)))) bit_none)
      (λ t. rw (t, untouched s (run.pictures p) (eqb-false _ 0 t)) P)

shows_calls : (l : List Call) (js : List Code) (s : Station) → Shows js s → Shows (jams s l js) (calls s l)
shows_calls [] js s P = P
shows_calls (c ∷ l) js s P = shows_calls l (jammed s c js) (station_after s c) (shows_call js s P c)

-- where it begins, nothing is
begins_none : (s : Station) → Begins s → Shows [] s
unfolding among
begins_none s at_start = bit_none
begins_none s (by_image before r apart h e) = rw (ap (λ o. o.station) (image_is before r apart (image_has before r apart e))) bit_none

pub apart_exactly : ApartExactly
apart_exactly s b l k =
    let e = shows_calls l [] s (begins_none s b) k in
    (λ t. among_at (jams s l []) k (sym e ∙ t), λ h. e ∙ at_among (jams s l []) k h.0 h.1 h.2)
