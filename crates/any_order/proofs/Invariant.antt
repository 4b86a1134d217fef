-- What a record holds while an accepted set is outstanding, whatever has come so far. Each place belongs to somebody: in
-- the area of an instruction that succeeded the record is what that instruction alone makes of the record at acceptance;
-- at every other place it is what the car events alone make of that record. So nothing depends on the order.
-- Each result and each event keeps it so (`success`, `failure`, `moved`), and at the end it tells the whole record
-- (`at_end_lem`, `same_end`). Assumes nothing.
use Prim.Native.Nat.{ℕ, ◌<◌}
use mathlib.Core.Path.{◌≡◌, refl, sym, ◌∙◌}
use mathlib.Core.Logic.{⊎_elim}
use mathlib.Core.Bool.{Bool, true, false, not, cond, ◌&&◌}
use lib.Dec.{eqb}
use borrow.Author.Tests.{eqb-false}
use Rattle.any_order.proofs.Rules.{Rules, Agree, Same, Within, Framed}
use Rattle.any_order.proofs.Machine.{Batch, Outcome, moves, mark, blocks, lost}
use Rattle.any_order.proofs.Orders.{event_alone, AtEnd}
use Rattle.bits.proofs.Cases.{split, clash, off, both, neither}
use Rattle.bits.proofs.Search.{found}
use Rattle.any_order.proofs.Facts.{mark_here, mark_kept, mark_cases, blocks_clear}
use Rattle.any_order.proofs.GoodOrder.{Ready}

-- an accepted set: the rules' frame, the set, the record and what was set apart at acceptance, and what will be reported of each instruction
pub record Scene {W C O P I E : Type 0} (R : Rules W C I E) (view : I → W → O) (glance : E → W → P) : Type 0 where
  pub frame : Framed R view glance
  pub set : Batch I
  pub start : W
  pub sound : R.sound start ≡ true
  pub ready : Ready R set start
  pub away : ℕ → Bool
  pub choice : ℕ → Outcome

module _ {W C O P I E : Type 0} {R : Rules W C I E} {view : I → W → O} {glance : E → W → P} (S : Scene R view glance) where
  -- instruction j, its area, and two records that agree there
  abbrev code : ℕ → I
  code j = S.set.at j

  abbrev area : ℕ → ℕ → Bool
  area j = R.area (code j)

  abbrev On : (ℕ → Bool) → W → W → Type 0
  On = Agree R.width R.look

  -- j has succeeded, where `ans` are answered
  abbrev pub Won : (ℕ → Bool) → ℕ → Type 0
  Won ans j = (j < S.set.size) × (ans j ≡ true) × (moves (S.choice j) ≡ true)

  -- the record is f, `ans` are answered, and g is what the events alone have made of the record at acceptance
  pub record Inv (g f : W) (ans : ℕ → Bool) : Type 0 where
    -- in the area of a success f is what that instruction alone makes, and elsewhere f is g
    pub won : (j : ℕ) → Won ans j → On (area j) f (R.next (code j) S.start)
    pub rest : (k : ℕ) → k < R.width → ((j : ℕ) → Won ans j → area j k ≡ false) → R.look f k ≡ R.look g k
    -- the events have changed nothing in the areas of the set
    pub still : (j : ℕ) → j < S.set.size → On (area j) g S.start
    pub sound : R.sound f ≡ true
    pub sound_alone : R.sound g ≡ true
    -- an instruction with no result sees what it saw at acceptance, and an event that may come what it sees at g
    pub sees : (j : ℕ) → j < S.set.size → ans j ≡ false → view (code j) f ≡ view (code j) S.start
    pub glances : blocks R S.set ≡ false → (e : E) → glance e f ≡ glance e g

  pub begin : Inv S.start S.start (λ j. false)
  begin = record { won = λ j w. clash w.1 refl; rest = λ k n none. refl; still = λ j h k n a. refl; sound = S.sound; sound_alone = S.sound; sees = λ j h u. refl; glances = λ t e. refl }

  -- ---- a result

  untouched : {g f : W} {ans : ℕ → Bool} → Inv g f ans → (i : ℕ) → i < S.set.size → ans i ≡ false → On (area i) f S.start
  untouched v i h u k n a = v.rest k n (λ j w. S.ready.apart i j h w.0 (λ e. clash w.1 (rw (← e) u)) k n a) ∙ v.still i h k n a

  pub still_allowed : {g f : W} {ans : ℕ → Bool} → Inv g f ans → (i : ℕ) → i < S.set.size → ans i ≡ false → R.allowed (code i) f ≡ true
  still_allowed {f} v i h u = (S.frame.instruction (code i)).reads f S.start v.sound S.sound (untouched v i h u) (v.sees i h u) ∙ S.ready.allowed i h

  pub success : {g f : W} {ans : ℕ → Bool} → Inv g f ans → (i : ℕ) → i < S.set.size → ans i ≡ false → moves (S.choice i) ≡ true → Inv g (R.next (code i) f) (mark i ans)
  success {g} {f} {ans} v i h u c = record {
    won = λ j w k n a. ⊎_elim
        (λ e. rw (← e) (own.writes f S.start v.sound S.sound (untouched v i h u) (v.sees i h u) ok k n (rw e a)))
        (λ t. own.keeps f v.sound ok k n (S.ready.apart j i w.0 h (λ e. clash t (rw e u)) k n a) ∙ v.won j (w.0, t, w.2) k n a)
        (mark_cases i ans j w.1);
    rest = λ k n none. own.keeps f v.sound ok k n (none i (h, mark_here i ans, c)) ∙ v.rest k n (λ j w. none j (w.0, mark_kept i ans j w.1, w.2));
    still = v.still;
    sound = own.safe f v.sound ok;
    sound_alone = v.sound_alone;
    sees = λ j m n.
        let (ne, old) = neither (eqb i j) (ans j) n in
        S.frame.view_next (code j) (code i) (S.ready.apart j i m h (λ e. eqb-false i j ne (sym e))) f v.sound ok ∙ v.sees j m old;
    glances = λ t e. S.frame.glance_next e (code i) (blocks_clear R S.set t i h) f v.sound ok ∙ v.glances t e;
  }
    where
      own : Within R.width R.look R.sound (view (code i)) (area i) (R.allowed (code i)) (R.next (code i))
      own = S.frame.instruction (code i)

      ok : R.allowed (code i) f ≡ true
      ok = still_allowed v i h u

  pub failure : {g f : W} {ans : ℕ → Bool} → Inv g f ans → (i : ℕ) → moves (S.choice i) ≡ false → Inv g f (mark i ans)
  failure {ans} v i c = record {
    won = λ j w. ⊎_elim (λ e. clash w.2 (rw (← e) c)) (λ t. v.won j (w.0, t, w.2)) (mark_cases i ans j w.1);
    rest = λ k n none. v.rest k n (λ j w. none j (w.0, mark_kept i ans j w.1, w.2));
    still = v.still;
    sound = v.sound;
    sound_alone = v.sound_alone;
    sees = λ j m n. v.sees j m (neither (eqb i j) (ans j) n).1;
    glances = v.glances;
  }

  -- ---- an event

  -- whether it is taken while the set is outstanding, the record then, and the number that it is answered with
  abbrev pub passes : W → E → Bool
  passes f e = not (blocks R S.set) && (not (lost R S.away) && R.possible e f)

  abbrev pub alone : W → E → W
  alone = event_alone R S.set S.away

  abbrev pub answer : W → E → ℕ
  answer f e = cond (blocks R S.set) (R.held e) (R.reply e (lost R S.away) f)

  pub moved : {g f : W} {ans : ℕ → Bool} → Inv g f ans → (e : E) → (answer f e ≡ answer g e) × Inv (alone g e) (alone f e) ans
  moved {g} {f} {ans} v e = split (blocks R S.set)
      (λ t. rw t (refl, v))
      (λ t. rw t (
        S.frame.reply e _ f g v.sound v.sound_alone (agree t) (v.glances t e),
        split (lost R S.away)
            (λ u. rw u v)
            (λ u. rw (u, alike t) (split (R.possible e g) (λ p. rw p (passed t (alike t ∙ p) p)) (λ p. rw p v))),
      ))
    where
      own : Within R.width R.look R.sound (glance e) R.lift (R.possible e) (R.after e)
      own = S.frame.event e

      agree : blocks R S.set ≡ false → On R.lift f g
      agree t k n l = v.rest k n (λ j w. off _ (λ a. clash l (blocks_clear R S.set t j w.0 k n a)))

      alike : blocks R S.set ≡ false → R.possible e f ≡ R.possible e g
      alike t = own.reads f g v.sound v.sound_alone (agree t) (v.glances t e)

      kept : blocks R S.set ≡ false → (h : W) → R.sound h ≡ true → R.possible e h ≡ true → (j : ℕ) → j < S.set.size → On (area j) (R.after e h) h
      kept t h s p j m k n a = own.keeps h s p k n (blocks_clear R S.set t j m k n a)

      passed : blocks R S.set ≡ false → R.possible e f ≡ true → R.possible e g ≡ true → Inv (R.after e g) (R.after e f) ans
      passed t p q = record {
        won = λ j w k n a. kept t f v.sound p j w.0 k n a ∙ v.won j w k n a;
        rest = λ k n none. split (R.lift k)
            (own.writes f g v.sound v.sound_alone (agree t) (v.glances t e) p k n)
            (λ l. own.keeps f v.sound p k n l ∙ v.rest k n none ∙ sym (own.keeps g v.sound_alone q k n l));
        still = λ j h k n a. kept t g v.sound_alone q j h k n a ∙ v.still j h k n a;
        sound = own.safe f v.sound p;
        sound_alone = own.safe g v.sound_alone q;
        sees = λ j m n. S.frame.view_after (code j) e (blocks_clear R S.set t j m) f v.sound p ∙ v.sees j m n;
        glances = λ u x. S.frame.glance_after x e f g v.sound v.sound_alone (agree t) (v.glances t x) (v.glances t e) p;
      }

  -- ---- the end

  pub at_end_lem : {g f : W} {ans : ℕ → Bool} → Inv g f ans → ((j : ℕ) → j < S.set.size → ans j ≡ true) → AtEnd R S.set S.choice S.start g f
  at_end_lem v all = record { success = λ j h c. v.won j (h, all j h, c); rest = λ k n none. v.rest k n (λ j w. none j w.0 w.2) }

-- two records at the end are the same at every place
module _ {W C I E : Type 0} {R : Rules W C I E} {b : Batch I} {choice : ℕ → Outcome} {f g h h' : W} where
  pub same_end : AtEnd R b choice f g h → AtEnd R b choice f g h' → Same R.width R.look h h'
  same_end v w k n = ⊎_elim
      (λ r. let (c, a) = both (moves (choice r.0)) (R.area (b.at r.0) k) r.2 in v.success r.0 r.1 c k n a ∙ sym (w.success r.0 r.1 c k n a))
      (λ none. v.rest k n (λ j m c. rw c at (none j m)) ∙ sym (w.rest k n (λ j m c. rw c at (none j m))))
      (found b.size (λ j. moves (choice j) && R.area (b.at j) k))
