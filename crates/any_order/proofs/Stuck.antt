-- Instructions that are stuck may have finished or not. Whichever did, in whatever order they are applied, the record with those
-- applied is sound, holds the same number of cars, and allows what still waits (`stuck_or_not`). Assumes nothing.
use Prim.Native.Nat.{ℕ, ◌<◌}
use mathlib.Core.Path.{◌≡◌, refl, sym, ◌∙◌}
use mathlib.Core.Logic.{⊎_elim}
use mathlib.Core.List.{List, [], ◌∷◌}
use mathlib.Core.Bool.{true, false, ◌&&◌, or-true}
use lib.Dec.{eqb}
use borrow.Author.Tests.{eqb-true, eq-eqb}
use Rattle.any_order.proofs.Rules.{Rules, Framed, Same, Clear}
use Rattle.any_order.proofs.Machine.{Batch, Station}
use Rattle.any_order.proofs.GoodOrder.{Apart, Good}
use Rattle.any_order.proofs.Jams.{has, Picks, applied, KeepsCars, Whichever}
use Rattle.any_order.proofs.Statements.{StuckOrNot}
use Rattle.bits.proofs.Cases.{split, clash, off, both}
use Rattle.bits.proofs.Search.{found}
use Rattle.any_order.proofs.KeptGood.{next_allowed, calls_good}

-- a number that was chosen is below the bound
picked : (n : ℕ) (l : List ℕ) → Picks n l → (j : ℕ) → has l j ≡ true → j < n
picked n [] p j e = clash e refl
picked n (i ∷ l) p j e = split (eqb i j) (λ t. rw (← eqb-true i j t) p.0) (λ t. picked n l p.2 j (rw t at e))

has_first : (i : ℕ) (l : List ℕ) → has (i ∷ l) i ≡ true
has_first i l = rw (eq-eqb i i refl)

has_later : (i : ℕ) (l : List ℕ) (j : ℕ) → has l j ≡ true → has (i ∷ l) j ≡ true
has_later i l j e = rw e (or-true (eqb i j))

module _ {W C O P I E : Type 0} (R : Rules W C I E) (view : I → W → O) (glance : E → W → P) (F : Framed R view glance) (b : Batch I) (A : Apart R b) where
  -- a choice of the set's instructions, on a sound record that allows each of them
  record Chosen (l : List ℕ) (f : W) : Type 0 where
    picks : Picks b.size l
    sound : R.sound f ≡ true
    allowed : (j : ℕ) → has l j ≡ true → R.allowed (b.at j) f ≡ true

  -- ---- the first of them, and the others

  module _ (i : ℕ) (l : List ℕ) (f : W) (c : Chosen (i ∷ l) f) where
    first : R.allowed (b.at i) f ≡ true
    first = c.allowed i (has_first i l)

    -- none of the others overlaps the first
    beside : (j : ℕ) → has l j ≡ true → Clear R.width (R.area (b.at j)) (R.area (b.at i))
    beside j e = A j i (picked b.size l c.picks.2 j e) c.picks.0 (λ q. clash e (rw q c.picks.1))

    then : Chosen l (R.next (b.at i) f)
    then = record {
      picks = c.picks.2;
      sound = (F.instruction (b.at i)).safe f c.sound first;
      allowed = λ j e. next_allowed R view glance F f c.sound (b.at j) (b.at i) first (beside j e) ∙ c.allowed j (has_later i l j e);
    }

  -- ---- what the record then holds: in the area of one applied what that one makes, elsewhere what it held

  applied_out : (l : List ℕ) (f : W) → Chosen l f → (k : ℕ) → k < R.width → ((j : ℕ) → has l j ≡ true → R.area (b.at j) k ≡ false)
      → R.look (applied R b l f) k ≡ R.look f k
  applied_out [] f c k n none = refl
  applied_out (i ∷ l) f c k n none =
      applied_out l (R.next (b.at i) f) (then i l f c) k n (λ j e. none j (has_later i l j e))
      ∙ (F.instruction (b.at i)).keeps f c.sound (first i l f c) k n (none i (has_first i l))

  applied_in : (l : List ℕ) (f : W) → Chosen l f → (j : ℕ) → has l j ≡ true → (k : ℕ) → k < R.width → R.area (b.at j) k ≡ true
      → R.look (applied R b l f) k ≡ R.look (R.next (b.at j) f) k
  applied_in [] f c j e k n t = clash e refl
  applied_in (i ∷ l) f c j e k n t = split (eqb i j)
      (λ q. let r = eqb-true i j q in
      applied_out l g d k n (λ m h. off _ (λ u. clash t (rw (← r) (beside i l f c m h k n u)))) ∙ rw r)
      (λ q. let h : has l j ≡ true = rw q at e in
      let x = beside i l f c j h in
      applied_in l g d j h k n t
      ∙ (F.instruction (b.at j)).writes g f d.sound c.sound (λ m y u. (F.instruction (b.at i)).keeps f c.sound ok m y (x m y u))
      (F.view_next (b.at j) (b.at i) x f c.sound ok) (d.allowed j h) k n t)
    where
      ok : R.allowed (b.at i) f ≡ true
      ok = first i l f c

      g : W
      g = R.next (b.at i) f

      d : Chosen l g
      d = then i l f c

  -- so the order does not matter
  applied_order : (l m : List ℕ) (f : W) → Chosen l f → Picks b.size m → ((j : ℕ) → has l j ≡ has m j)
      → Same R.width R.look (applied R b l f) (applied R b m f)
  applied_order l m f c q e k n = ⊎_elim
      (λ r. let (h, t) = both (has l r.0) (R.area (b.at r.0) k) r.2 in
      applied_in l f c r.0 h k n t ∙ sym (applied_in m f d r.0 (sym (e r.0) ∙ h) k n t))
      (λ none. applied_out l f c k n (λ j h. rw h at (none j (picked b.size l c.picks j h)))
      ∙ sym (applied_out m f d k n (λ j h. rw (e j ∙ h) at (none j (picked b.size m q j h)))))
      (found b.size (λ j. has l j && R.area (b.at j) k))
    where
      d : Chosen m f
      d = record { picks = q; sound = c.sound; allowed = λ j h. c.allowed j (e j ∙ h) }

  -- ---- the record is sound, has the same cars, and allows what has another area

  applied_sound : (l : List ℕ) (f : W) → Chosen l f → R.sound (applied R b l f) ≡ true
  applied_sound [] f c = c.sound
  applied_sound (i ∷ l) f c = applied_sound l (R.next (b.at i) f) (then i l f c)

  applied_cars : (cars : W → ℕ) → KeepsCars R cars → (l : List ℕ) (f : W) → Chosen l f → cars (applied R b l f) ≡ cars f
  applied_cars cars K [] f c = refl
  applied_cars cars K (i ∷ l) f c = applied_cars cars K l (R.next (b.at i) f) (then i l f c) ∙ K (b.at i) f c.sound (first i l f c)

  applied_allowed : (x : I) → ((j : ℕ) → j < b.size → Clear R.width (R.area x) (R.area (b.at j)))
      → (l : List ℕ) (f : W) → Chosen l f → R.allowed x (applied R b l f) ≡ R.allowed x f
  applied_allowed x clear [] f c = refl
  applied_allowed x clear (i ∷ l) f c =
      applied_allowed x clear l (R.next (b.at i) f) (then i l f c)
      ∙ next_allowed R view glance F f c.sound x (b.at i) (first i l f c) (clear i c.picks.0)

-- ---- the theorem

module _ {W C O P I E : Type 0} (R : Rules W C I E) (view : I → W → O) (glance : E → W → P) (F : Framed R view glance) where
  -- of a station in good order
  pub good_whichever : (js : Batch I) (s : Station W I) → Good R js s → (p : List ℕ) → Picks js.size p → Whichever R js s p
  good_whichever js s G p h = record {
    sound = applied_sound R view glance F js A p s.bits c;
    cars = λ cars K. applied_cars R view glance F js A cars K p s.bits c;
    order = λ q m e. applied_order R view glance F js A p q s.bits c m e;
    allowed = λ j w. applied_allowed R view glance F js A (s.set.at j) (G.free j w) p s.bits c ∙ G.allowed j w;
  }
    where
      A : Apart R js
      A = G.jammed.apart

      c : Chosen R view glance F js A p s.bits
      c = record { picks = h; sound = G.sound; allowed = λ j e. G.jammed.allowed j (picked js.size p h j e) }

  -- of any that is reached from one
  pub stuck_or_not : StuckOrNot R
  stuck_or_not js s G l p h = good_whichever _ _ (calls_good R view glance F js s G l) p h
