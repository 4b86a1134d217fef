-- A walk over a record: where row 1 splits into pairs it lists the cars of a layout, and always in the order of their places. What stands
-- behind some cells, further along the walk, goes with each step. Assumes nothing.
use mathlib.Core.Path.{◌≡◌, refl, sym, ap, ◌∙◌}
use mathlib.Core.Logic.{⊎_elim}
use mathlib.Core.Bool.{Bool, true, false, cond, not, ◌&&◌, and-true, and-false}
use mathlib.Core.List.{List, [], ◌∷◌, ◌++◌}
use Prim.Native.Nat.{ℕ, zero, suc, ◌+◌, ◌≤◌, ◌<◌}
use native.Mathlib.Nat.{eq-or-lt_of_le}
use native.Mathlib.Omega.{arith}
use lib.Dec.{eqb}
use lib.ListN.{length}
use borrow.Author.Tests.{eq-eqb, ne_eqb}
use Rattle.bits.specs.Bits.{Bits, digit}
use Rattle.bits.specs.Places.{from}
use Rattle.bits.proofs.Cases.{split, both, clash}
use Rattle.floor.specs.Floor.{raised_car}
use Rattle.floor.specs.Cars.{Car, pair, single, raised, covered, AllStand, Place, Layout, cars}
use Rattle.floor.specs.Sound.{Sound, paired}
use Rattle.floor.proofs.Layouts.{at_same, at_other}
use Rattle.floor.proofs.Promises.{layout_exactly, layout_cars}
use Rattle.cars.specs.Lists.{anchor, Among, Rising}
use Rattle.plain.specs.Walks.{pairs_from, singles_of, walked}

-- ---- a layout

-- the cars l cover the occupied places from k on, but for place k where a car that began before it stands there too; and none before k
record Onward (f : Bits) (k : ℕ) (half : Bool) (l : List Car) : Type 0 where
  stand : AllStand l
  on : (j : ℕ) → k ≤ j → Place j → covered l j + digit (half && eqb k j) ≡ digit (f j)
  before : (j : ℕ) → j < k → covered l j ≡ 0

module _ (f : Bits) where
  -- a place with no car that begins there: it is free, or the other half of one
  passes : (k : ℕ) (half : Bool) (l : List Car) → half ≡ f k → Onward f (suc k) false l → Onward f k half l
  passes k half l e p = record {
    stand = p.stand;
    on = λ j a h. ⊎_elim
        (λ (i : k ≡ j). omega (arith, p.before j (omega arith), ap digit (and-true half), ap (λ (b : Bool). digit (half && b)) (eq-eqb k j i), ap digit (e ∙ ap f i)))
        (λ (l : k < j). omega (arith, p.on j l h, ap digit (and-false half), ap (λ (b : Bool). digit (half && b)) (ne_eqb k j (omega arith)))) (eq-or-lt_of_le a);
    before = λ j h. p.before j (omega arith);
  }

  -- a car in row 1 begins at k; its other half is taken out of what comes after
  begins : (k : ℕ) (l : List Car) → k < 19 → f k ≡ true → Onward f (suc k) true l → Onward f k false (pair k ∷ l)
  unfolding covered AllStand
  begins k l s e p = record {
    stand = (s, p.stand);
    on = λ j a h. ⊎_elim
        (λ (i : k ≡ j). omega (arith, at_same k j i, at_other (suc k) j (omega arith), p.before j (omega arith), ap digit (sym e ∙ ap f i)))
        (λ (l : k < j). omega (arith, at_other k j (omega arith), p.on j l h)) (eq-or-lt_of_le a);
    before = λ j h. omega (arith, at_other k j (omega arith), at_other (suc k) j (omega arith), p.before j (omega arith));
  }

  -- a car that is one cell
  stands : (k : ℕ) (l : List Car) → (20 ≤ k) × (k < 40) → f k ≡ true → Onward f (suc k) false l → Onward f k false (single k ∷ l)
  unfolding covered AllStand
  stands k l s e p = record {
    stand = (s, p.stand);
    on = λ j a h. ⊎_elim
        (λ (i : k ≡ j). omega (arith, at_same k j i, p.before j (omega arith), ap digit (sym e ∙ ap f i)))
        (λ (l : k < j). omega (arith, at_other k j (omega arith), p.on j l h)) (eq-or-lt_of_le a);
    before = λ j h. omega (arith, at_other k j (omega arith), p.before j (omega arith));
  }

  -- the raised lift, behind all cells
  lifted : Onward f 40 false (cond (f raised_car) (raised ∷ []) [])
  unfolding covered AllStand
  lifted = split (f raised_car)
      (λ e. rw e (record {
        stand = (tt, tt);
        on = λ j a h. ⊎_elim
            (λ (l : j < 40). absurd (omega arith))
            (λ (i : j ≡ raised_car). omega (arith, at_same raised_car j (sym i), ap digit (sym e ∙ ap f (sym i)))) h;
        before = λ j h. omega (arith, at_other raised_car j (omega arith));
      }))
      (λ e. rw e (record {
        stand = tt;
        on = λ j a h. ⊎_elim
            (λ (l : j < 40). absurd (omega arith))
            (λ (i : j ≡ raised_car). omega (arith, ap digit (sym e ∙ ap f (sym i)))) h;
        before = λ j h. refl;
      }))

  module _ (m : List Car) where
    -- the cells of rows 2 and 3
    singles_laid : (n k : ℕ) → 20 ≤ k → k + n ≡ 40 → Onward f 40 false m → Onward f k false (singles_of (from k n) f ++ m)
    unfolding singles_of
    singles_laid zero k l e p = let i : k ≡ 40 = omega arith in rw i p
    singles_laid (suc n) k l e p =
        let rest = singles_laid n (suc k) (omega arith) (omega arith) p in
        split (f k)
        (λ t. rw t (stands k _ (l, omega arith) t rest))
        (λ t. rw t (passes k false _ (sym t) rest))

    -- the cells of row 1
    pairs_laid : (n k : ℕ) (half : Bool) → n + k ≡ 20 → paired n k half f ≡ true → Onward f 20 false m → Onward f k half (pairs_from n k half f ++ m)
    unfolding pairs_from paired
    pairs_laid zero k true e s p = clash s refl
    pairs_laid zero k false e s p = let i : k ≡ 20 = omega arith in rw i p
    pairs_laid (suc n) k true e s p =
        let (t, rest) = both (f k) (paired n (suc k) false f) s in
        rw (and-false (f k)) (passes k true _ (sym t) (pairs_laid n (suc k) false (omega arith) rest p))
    pairs_laid (suc n) k false e s p = rw (and-true (f k)) (go (f k) refl s (λ b t. pairs_laid n (suc k) b (omega arith) t p))
      where
        room : (n : ℕ) → suc n + k ≡ 20 → paired n (suc k) true f ≡ true → k < 19
        room zero e s = clash s refl
        room (suc n) e s = omega arith

        go : (b : Bool) → f k ≡ b → paired n (suc k) b f ≡ true
            → ((c : Bool) → paired n (suc k) c f ≡ true → Onward f (suc k) c (pairs_from n (suc k) c f ++ m))
            → Onward f k false (cond b (pair k ∷ pairs_from n (suc k) b f) (pairs_from n (suc k) b f) ++ m)
        go true t s rest = begins k _ (room n e s) t (rest true s)
        go false t s rest = passes k false _ (sym t) (rest false s)

pub walked_layout : (f : Bits) → Sound f → Layout f (walked f)
unfolding walked
walked_layout f S =
    let p = pairs_laid f _ 20 0 false (omega arith) ((layout_exactly f).1 S.layout) (singles_laid f _ 20 20 (omega arith) (omega arith) (lifted f)) in
    record { stand = p.stand; cover = λ k h. omega (arith, p.on k (omega arith) h) }

-- as many as are counted
pub walked_cars : (f : Bits) → Sound f → length (walked f) ≡ cars f
walked_cars f S = layout_cars f (walked f) (walked_layout f S)

-- ---- in order

-- cars in the order of their places, from k on
abbrev Rises : ℕ → List Car → Type 0
Rises k l = ((y : Car) → Among y l → k ≤ anchor y) × Rising l

later : (k : ℕ) (l : List Car) → Rises (suc k) l → Rises k l
later k l r = (λ y m. omega (arith, r.0 y m), r.1)

one_more : (k : ℕ) (x : Car) (l : List Car) → k ≤ anchor x → Rises (suc (anchor x)) l → Rises k (x ∷ l)
unfolding Among
one_more k x l h r = (
  λ y m. ⊎_elim (λ (i : y ≡ x). omega (arith, ap anchor i)) (λ (n : Among y l). omega (arith, r.0 y n)) m,
  (λ y m. omega (arith, r.0 y m), r.1),
)

module _ (f : Bits) where
  lift_rises : Rises 40 (cond (f raised_car) (raised ∷ []) [])
  unfolding Among
  lift_rises = go (f raised_car)
    where
      go : (b : Bool) → Rises 40 (cond b (raised ∷ []) [])
      go true = one_more 40 raised [] (omega arith) (λ y m. absurd m, tt)
      go false = (λ y m. absurd m, tt)

  module _ (m : List Car) where
    singles_rise : (n k : ℕ) → Rises (k + n) m → Rises k (singles_of (from k n) f ++ m)
    unfolding singles_of
    singles_rise zero k r = let e : k + 0 ≡ k = omega arith in rw e at r
    singles_rise (suc n) k r =
        let e : k + suc n ≡ suc k + n = omega arith in
        let rest = singles_rise n (suc k) (rw e at r) in
        split (f k) (λ t. rw t (one_more k (single k) _ (omega arith) rest)) (λ t. rw t (later k _ rest))

    pairs_rise : (n k : ℕ) (half : Bool) → Rises (k + n) m → Rises k (pairs_from n k half f ++ m)
    unfolding pairs_from
    pairs_rise zero k half r = let e : k + 0 ≡ k = omega arith in rw e at r
    pairs_rise (suc n) k half r =
        let e : k + suc n ≡ suc k + n = omega arith in
        let s : Rises (suc k + n) m = rw e at r in
        split (f k && not half)
        (λ t. rw t (one_more k (pair k) _ (omega arith) (pairs_rise n (suc k) true s)))
        (λ t. rw t (later k _ (pairs_rise n (suc k) false s)))

pub walked_rises : (f : Bits) → Rising (walked f)
unfolding walked
walked_rises f = (pairs_rise f _ 20 0 false (singles_rise f _ 20 20 (lift_rises f))).1
