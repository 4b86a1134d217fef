-- A call keeps a station in good order. Assumes nothing.
use Prim.Native.Nat.{ℕ, zero, suc, ◌<◌}
use native.Mathlib.Omega.{arith}
use mathlib.Core.Path.{◌≡◌, refl, sym, ap, ◌∙◌}
use mathlib.Core.List.{[], ◌∷◌}
use mathlib.Core.Bool.{Bool, true, false, not, cond, or-true}
use lib.Dec.{eqb}
use borrow.Author.Tests.{not-true, eqb-false}
use Rattle.any_order.proofs.Rules.{Rules, Clear, Framed}
use Rattle.any_order.proofs.Machine.{Batch, Station, Outcome, failed, finished, stuck, sticks, result, event, Call, request, act, image, noted, released, outstanding, empty, idle, blocks, blocked, lost, parted, taken, takes, does, call}
use Rattle.any_order.proofs.GoodOrder.{Apart, Ready, Waits, Good}
use Rattle.any_order.proofs.Jams.{more, jam, jammed}
use Rattle.any_order.proofs.Statements.{GoodAtStart, CallsGood}
use Rattle.bits.proofs.Cases.{split, clash, both, neither, off}
use Rattle.any_order.proofs.Facts.{due, still_open, accepted_has, blocks_clear, meets_clear, clear_turned}

-- ---- what asks nothing of the rules

module _ {W C I E : Type 0} (R : Rules W C I E) where
  none_ready : (f : W) → Ready R (empty R) f
  none_ready f = record { apart = λ i j h. absurd (omega arith); allowed = λ j h. absurd (omega arith) }

  -- a station that holds no instruction
  idle_good : (js : Batch I) (f : W) (away : ℕ → Bool) → R.sound f ≡ true → Ready R js f
      → ((i : ℕ) → i < js.size → (k : ℕ) → k < R.width → R.area (js.at i) k ≡ true → away k ≡ true) → Good R js (idle R f away)
  idle_good js f away z A a = record {
    sound = z;
    apart = λ i j h. absurd (omega arith);
    allowed = λ j w. absurd (let h = w.0 in omega arith);
    jammed = A;
    inside = a;
    free = λ j w. absurd (let h = w.0 in omega arith);
  }

  pub good_at_start : GoodAtStart R
  good_at_start f away s = idle_good (empty R) f away s (none_ready f) (λ i h. absurd (omega arith))

  released_good : {js : Batch I} (s : Station W I) → Good R js s → Good R js (released R s)
  released_good {js} s G = split (outstanding s) (λ t. rw t G) (λ t. rw t (idle_good js s.bits s.away G.sound G.jammed G.inside))

  -- an instruction that waits still has no result
  waited : (s : Station W I) (i : ℕ) (o : Outcome) (j : ℕ) → Waits R (noted R s i o) j → (i ≡ j → ⊥) × Waits R s j
  waited s i o j w = let (ne, old) = neither (eqb i j) (s.answered j) w.1 in (eqb-false i j ne, (w.0, old))

  -- one more of a set whose instructions are apart and allowed
  more_ready : (js : Batch I) (i : I) (f : W) → Ready R js f → R.allowed i f ≡ true → ((j : ℕ) → j < js.size → Clear R.width (R.area i) (R.area (js.at j))) → Ready R (more js i) f
  more_ready js i f A t c = record { apart = apart; allowed = allowed }
    where
      allowed : (j : ℕ) → j < suc js.size → R.allowed ((more js i).at j) f ≡ true
      allowed zero h = t
      allowed (suc j) h = A.allowed j (omega arith)

      apart : Apart R (more js i)
      apart zero zero hp hq ne = absurd (ne refl)
      apart zero (suc q) hp hq ne = c q (omega arith)
      apart (suc p) zero hp hq ne = clear_turned R.width _ _ (c p (omega arith))
      apart (suc p) (suc q) hp hq ne = A.apart p q (omega arith) (omega arith) (λ e. ne (ap suc e))

-- ---- in good order

module _ {W C O P I E : Type 0} (R : Rules W C I E) (view : I → W → O) (glance : E → W → P) (F : Framed R view glance) where
  -- what is allowed stays so after a change in another area
  pub next_allowed : (f : W) → R.sound f ≡ true → (i j : I) → R.allowed j f ≡ true → Clear R.width (R.area i) (R.area j) → R.allowed i (R.next j f) ≡ R.allowed i f
  next_allowed f z i j t c = (F.instruction i).reads _ f ((F.instruction j).safe f z t) z (λ k m a. (F.instruction j).keeps f z t k m (c k m a)) (F.view_next i j c f z t)

  pub after_allowed : (f : W) → R.sound f ≡ true → (i : I) (e : E) → R.possible e f ≡ true → Clear R.width (R.area i) R.lift → R.allowed i (R.after e f) ≡ R.allowed i f
  after_allowed f z i e t c = (F.instruction i).reads _ f ((F.event e).safe f z t) z (λ k m a. (F.event e).keeps f z t k m (c k m a)) (F.view_after i e c f z t)

  result_good : {js : Batch I} (s : Station W I) → Good R js s → (i : ℕ) (o : Outcome) → taken R s (result i o) ≡ true → Good R (cond (sticks o) (more js (s.set.at i)) js) (noted R s i o)
  result_good s G i failed t = record {
    sound = G.sound;
    apart = G.apart;
    allowed = λ j w. G.allowed j (waited R s i failed j w).1;
    jammed = G.jammed;
    inside = G.inside;
    free = λ j w. G.free j (waited R s i failed j w).1;
  }
  result_good {js} s G i finished t =
      let n = due s.set.size s.answered i t in
      let ok = G.allowed i n in
      record {
        sound = (F.instruction (s.set.at i)).safe s.bits G.sound ok;
        apart = G.apart;
        allowed = λ j w.
            let (ne, old) = waited R s i finished j w in
            next_allowed s.bits G.sound (s.set.at j) (s.set.at i) ok (G.apart j i w.0 n.0 (λ e. ne (sym e))) ∙ G.allowed j old;
        jammed = record {
          apart = G.jammed.apart;
          allowed = λ j h. next_allowed s.bits G.sound (js.at j) (s.set.at i) ok (clear_turned R.width _ _ (G.free i n j h)) ∙ G.jammed.allowed j h;
        };
        inside = G.inside;
        free = λ j w. G.free j (waited R s i finished j w).1;
      }
  result_good {js} s G i stuck t = record {
    sound = G.sound;
    apart = G.apart;
    allowed = λ j w. G.allowed j (waited R s i stuck j w).1;
    jammed = more_ready R js (s.set.at i) s.bits G.jammed (G.allowed i n) (G.free i n);
    inside = inside;
    free = free;
  }
    where
      n : Waits R s i
      n = due s.set.size s.answered i t

      inside : (j : ℕ) → j < suc js.size → (k : ℕ) → k < R.width → R.area ((more js (s.set.at i)).at j) k ≡ true → parted R (s.set.at i) stuck s.away k ≡ true
      inside zero h k m a = rw a
      inside (suc j) h k m a = rw (G.inside j (omega arith) k m a) (or-true (R.area (s.set.at i) k))

      free : (j : ℕ) → Waits R (noted R s i stuck) j → (p : ℕ) → p < suc js.size → Clear R.width (R.area (s.set.at j)) (R.area ((more js (s.set.at i)).at p))
      free j w zero h = let (ne, old) = waited R s i stuck j w in G.apart j i w.0 n.0 (λ q. ne (sym q))
      free j w (suc p) h = G.free j (waited R s i stuck j w).1 p (omega arith)

  does_good : {js : Batch I} (s : Station W I) → Good R js s → (c : Call W I E) → takes R s c ≡ true → Good R (jam R s c js) (does R s c)
  does_good s G (request b) t =
      let A = accepted_has R b s.bits s.away (both (not (outstanding s)) _ t).1 in
      record {
        sound = G.sound;
        apart = A.ready.apart;
        allowed = λ j w. A.ready.allowed j w.0;
        jammed = G.jammed;
        inside = G.inside;
        free = λ j w i h k n a. off _ (λ u. clash (G.inside i h k n u) (A.free j w.0 k n a));
      }
  does_good s G (image f) t =
      let (n, z) = both (not (outstanding s)) (R.sound f) t in
      record {
        sound = z;
        apart = G.apart;
        allowed = λ j w. clash (still_open s j w.0 w.1) (not-true (outstanding s) n);
        jammed = none_ready R f;
        inside = λ i h. absurd (omega arith);
        free = λ j w i h. absurd (omega arith);
      }
  does_good s G (act (result i o)) t = released_good R (noted R s i o) (result_good s G i o t)
  does_good {js} s G (act (event e)) t =
      let (n, m) = both (not (blocked R s)) _ t in
      let (w, p) = both (not (lost R s.away)) (R.possible e s.bits) m in
      record {
        sound = (F.event e).safe s.bits G.sound p;
        apart = G.apart;
        allowed = λ j u.
            let q : blocks R s.set ≡ false = rw (still_open s j u.0 u.1) at (not-true (blocked R s) n) in
            after_allowed s.bits G.sound (s.set.at j) e p (blocks_clear R s.set q j u.0) ∙ G.allowed j u;
        jammed = record {
          apart = G.jammed.apart;
          allowed = λ j h. after_allowed s.bits G.sound (js.at j) e p (λ k n a. off _ (λ l. clash (G.inside j h k n a) (meets_clear R R.lift s.away (not-true _ w) k n l))) ∙ G.jammed.allowed j h;
        };
        inside = G.inside;
        free = G.free;
      }

  pub call_good : {js : Batch I} (s : Station W I) → Good R js s → (c : Call W I E) → Good R (jammed R s c js) (call R s c)
  call_good s G c = split (takes R s c) (λ t. rw t (does_good s G c t)) (λ t. rw t G)

  pub calls_good : CallsGood R
  calls_good js s G [] = G
  calls_good js s G (c ∷ l) = calls_good (jammed R s c js) (call R s c) (call_good s G c) l
