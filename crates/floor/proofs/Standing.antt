-- Each place under a car of a sound record is on a belt that is there: a rule of soundness says so of each shuttle's cells, of the lift's
-- and of the raised lift. Assumes nothing.
use mathlib.Core.Path.{◌≡◌, refl, sym, ap, subst}
use mathlib.Core.Logic.{inl, inr, ⊎_elim}
use mathlib.Core.Bool.{Bool, true, false, not, ◌&&◌, ◌||◌}
use mathlib.Core.List.{List, [], ◌∷◌}
use Prim.Native.Nat.{ℕ, suc, ◌+◌, ◌≤◌, ◌<◌}
use native.Mathlib.Omega.{arith}
use lib.Dec.{T, eqb, ltb}
use lib.ListN.{get_or}
use borrow.Author.Tests.{eqb-true, eqb-false, lt-ltb, ltb-true, ltb-false}
use Rattle.bits.specs.Bits.{Bits, count, digit}
use Rattle.bits.specs.Places.{elem}
use Rattle.bits.proofs.Cases.{split, clash, and_intro, T→true, true→T}
use Rattle.bits.proofs.Counts.{count_zero, elem_from}
use Rattle.bits.proofs.Digits.{digit_one}
use Rattle.bits.proofs.Search.{lt_or_ge}
use Rattle.floor.specs.Floor.{belt_of, left, right, lowered, slot, place, raised_car, height_low, height_high, lift_cells}
use Rattle.floor.specs.Tests.{Test, fact, set, free, either, no, holds, all_hold, at_basement}
use Rattle.floor.specs.Cars.{Car, pair, single, raised, covered, AllStand, Layout}
use Rattle.floor.specs.Sound.{sound_rules}
use Rattle.floor.specs.Belts.{belt_there, lift_raised}
use Rattle.floor.specs.Promises.{OnBelts}
use Rattle.floor.proofs.Reading.{nth_holds}
use Rattle.floor.proofs.Layouts.{at_other}

-- of a rule "these places are free, or else": where one of them is occupied, the other part holds
pub or_else : (ks : List ℕ) (t : Test) (f : Bits) → T (holds (either (free ks) t) f) → (k : ℕ) → T (elem k ks) → f k ≡ true → holds t f ≡ true
or_else ks t f h k m o = split (eqb (count ks f) 0)
    (λ e. clash o (count_zero ks f (eqb-true (count ks f) 0 e) k m))
    (λ e. T→true (holds t f) (subst (λ (b : Bool). T (b || holds t f)) e h))

-- a car covers cells and the raised lift only
nowhere_else : (l : List Car) (k : ℕ) → AllStand l → 40 ≤ k → (k ≡ raised_car → ⊥) → covered l k ≡ 0
unfolding covered AllStand
nowhere_else [] k s h n = refl
nowhere_else (pair c ∷ l) k s h n = omega (arith, nowhere_else l k s.1 h n, at_other c k (omega arith), at_other (suc c) k (omega arith))
nowhere_else (single c ∷ l) k s h n = omega (arith, nowhere_else l k s.1 h n, at_other c k (omega arith))
nowhere_else (raised ∷ l) k s h n = omega (arith, nowhere_else l k s.1 h n, at_other raised_car k (λ e. n (sym e)))

-- by the two digits of a height that is neither the basement's nor 3
above : (low high : Bool) → not (eqb (digit low + 0) 0 && (high && true)) ≡ true → not ((low && true) && (high && true)) ≡ true
    → (eqb (digit low + 0) 0 && eqb (digit high + 0) 0) || ((low && true) && eqb (digit high + 0) 0) ≡ true
above true true a b = clash b refl
above true false a b = refl
above false true a b = clash a refl
above false false a b = refl

module _ (f : Bits) (r : T (all_hold sound_rules f)) where
  rule : (j : ℕ) → T (holds (get_or sound_rules j (fact true)) f)
  rule j = nth_holds f sound_rules r j

  on_lift : f raised_car ≡ true → holds lift_raised f ≡ true
  on_lift o = above (f height_low) (f height_high) (or_else (raised_car ∷ []) (no at_basement) f (rule 7) raised_car tt o) (T→true _ (rule 10))

  on_shuttle : (ks : List ℕ) (s : ℕ) → T (holds (either (free ks) (set (s ∷ []))) f) → (k : ℕ) → T (elem k ks) → f k ≡ true → (f s && true) && true ≡ true
  on_shuttle ks s h k m o = and_intro (or_else ks (set (s ∷ [])) f h k m o) refl

  -- cell by cell, in the ranges of `belt_of`
  on_belt : (k : ℕ) → k < 40 → f k ≡ true → holds (belt_there (belt_of k)) f ≡ true
  unfolding belt_of
  on_belt k h o =
      split (ltb k 2) (λ a. rw a (on_shuttle (place left 1) (slot left lowered 1) (rule 0) k (elem_from k 0 2 (omega arith) (ltb-true k 2 a)) o))
      (λ a. split (ltb k 11) (λ b. rw (a, b))
      (λ b. split (ltb k 13) (λ c. rw (a, b, c) (or_else lift_cells at_basement f (rule 6) k (elem_from k 11 2 (ltb-false k 11 b) (ltb-true k 13 c)) o))
      (λ c. split (ltb k 18) (λ d. rw (a, b, c, d))
      (λ d. split (ltb k 20) (λ e. rw (a, b, c, d, e) (on_shuttle (place right 1) (slot right lowered 1) (rule 3) k (elem_from k 18 2 (ltb-false k 18 d) (ltb-true k 20 e)) o))
      (λ e. split (ltb k 21) (λ g. rw (a, b, c, d, e, g) (on_shuttle (place left 2) (slot left lowered 2) (rule 1) k (elem_from k 20 1 (ltb-false k 20 e) (ltb-true k 21 g)) o))
      (λ g. split (ltb k 29) (λ i. rw (a, b, c, d, e, g, i))
      (λ i. split (ltb k 30) (λ j. rw (a, b, c, d, e, g, i, j) (on_shuttle (place right 2) (slot right lowered 2) (rule 4) k (elem_from k 29 1 (ltb-false k 29 i) (ltb-true k 30 j)) o))
      (λ j. split (ltb k 31) (λ l. rw (a, b, c, d, e, g, i, j, l) (on_shuttle (place left 3) (slot left lowered 3) (rule 2) k (elem_from k 30 1 (ltb-false k 30 j) (ltb-true k 31 l)) o))
      (λ l. split (ltb k 39) (λ m. rw (a, b, c, d, e, g, i, j, l, m))
      (λ m. rw (a, b, c, d, e, g, i, j, l, m, lt-ltb k 40 h) (on_shuttle (place right 3) (slot right lowered 3) (rule 5) k (elem_from k 39 1 (ltb-false k 39 m) h) o)))))))))))

pub on_belts : OnBelts
on_belts f l s y k h =
    let r = true→T s.rules in
    split (eqb k raised_car)
    (λ e. rw e (on_lift f r (digit_one (f raised_car) (omega (arith, y.cover raised_car (inr refl), ap (covered l) (eqb-true k raised_car e))))))
    (λ e. ⊎_elim
    (λ (a : k < 40). rw e (on_belt f r k a (digit_one (f k) (omega (arith, y.cover k (inl a))))))
    (λ (a : 40 ≤ k). absurd (omega (arith, nowhere_else l k y.stand a (eqb-false k raised_car e))))
    (lt_or_ge k 40))
