-- A row of half cells by parity: where the number of occupied cells below a place is odd, the second half of a car stands there.
-- The moves of the rules are shown to keep this, and it is shown to hold exactly of the rows that can be laid out as cars.
-- Assumes nothing.
use mathlib.Core.Path.{◌≡◌, refl, sym, ap, ◌∙◌}
use mathlib.Core.Logic.{◌↔◌, ⊎_elim}
use mathlib.Core.Bool.{Bool, true, false}
use Prim.Native.Nat.{ℕ, zero, suc, ◌+◌, ◌%◌, ◌≤◌, ◌<◌}
use native.Mathlib.Nat.{add-zero, add-suc, suc-add, eq-or-lt_of_le}
use native.Mathlib.Omega.{arith}
use Rattle.bits.specs.Bits.{Bits, digit, count}
use Rattle.bits.specs.Places.{from}
use Rattle.bits.proofs.Cases.{both, and_intro, clash}
use Rattle.bits.proofs.Digits.{digit_lt}
use Rattle.floor.specs.Sound.{paired}

-- how many of the first k cells are occupied
abbrev pub below : Bits → ℕ → ℕ
below f zero = 0
below f (suc k) = below f k + digit (f k)

-- the first n cells are whole cars
abbrev pub Whole : ℕ → Bits → Type 0
Whole n f = (k : ℕ) → k ≤ n → below f k % 2 ≡ 1 → (k < n) × (f k ≡ true)

-- the count of a span, by what is below its ends
pub count_from : (f : Bits) (m a : ℕ) → below f a + count (from a m) f ≡ below f (a + m)
count_from f zero a = simp add-zero
count_from f (suc m) a = omega (arith, count_from f m (suc a), ap (below f) (add-suc a m ∙ sym (suc-add a m)))

-- ---- the test of a row from the left keeps in mind whether the number of occupied cells so far is odd

module _ (f : Bits) (m : ℕ) where
  -- from cell k on, where n are left and half says that the number below k is odd
  whole_from : (n k : ℕ) (half : Bool) → n + k ≡ m → digit half ≡ below f k % 2 → paired n k half f ≡ true
      → (j : ℕ) → k ≤ j → j ≤ m → below f j % 2 ≡ 1 → (j < m) × (f j ≡ true)
  unfolding paired
  whole_from zero k true e h p j a b o = clash p refl
  whole_from zero k false e h p j a b o =
      let i : j ≡ k = omega arith in
      absurd (omega (arith, ap (below f) i))
  whole_from (suc n) k false e h p j a b o = ⊎_elim
      (λ (i : k ≡ j). absurd (omega (arith, ap (below f) i)))
      (λ (l : k < j). whole_from n (suc k) (f k) (omega arith) (omega (arith, digit_lt (f k))) p j l b o) (eq-or-lt_of_le a)
  whole_from (suc n) k true e h p j a b o =
      let (q, rest) = both (f k) (paired n (suc k) false f) p in
      ⊎_elim
      (λ (i : k ≡ j). ((omega arith), ap f (sym i) ∙ q))
      (λ (l : k < j). whole_from n (suc k) false (omega arith) (omega (arith, ap digit q)) rest j l b o) (eq-or-lt_of_le a)

  paired_from : Whole m f → (n k : ℕ) (half : Bool) → n + k ≡ m → digit half ≡ below f k % 2 → paired n k half f ≡ true
  unfolding paired
  paired_from w zero k true e h = absurd (omega (arith, (w k (omega arith) (omega arith)).0))
  paired_from w zero k false e h = refl
  paired_from w (suc n) k false e h = paired_from w n (suc k) (f k) (omega arith) (omega (arith, digit_lt (f k)))
  paired_from w (suc n) k true e h =
      let q = (w k (omega arith) (omega arith)).1 in
      and_intro q (paired_from w n (suc k) false (omega arith) (omega (arith, ap digit q)))

pub whole_iff_paired : (f : Bits) → (paired 20 0 false f ≡ true) ↔ Whole 20 f
whole_iff_paired f = (
  λ p k h o. whole_from f 20 20 0 false (omega arith) (omega arith) p k (omega arith) h o,
  λ w. paired_from f 20 w 20 0 false (omega arith) (omega arith),
)
