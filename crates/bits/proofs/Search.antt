-- What the tests of all numbers below a bound say of each. Assumes nothing.
use Prim.Native.Nat.{ℕ, zero, suc, ◌≤◌, ◌<◌}
use native.Mathlib.Omega.{arith}
use native.Mathlib.Nat.{eq-or-lt_of_le, le_of_suc-le-suc}
use mathlib.Core.Path.{◌≡◌, refl, sym, subst}
use mathlib.Core.Logic.{◌⊎◌, inl, inr, ⊎_elim}
use mathlib.Core.Bool.{Bool, true, false}
use lib.Dec.{T, ltb}
use borrow.Author.Tests.{ltb-true, ltb-false}
use Rattle.bits.specs.Search.{some, every}
use Rattle.bits.proofs.Cases.{split, clash, both, neither, T→true, true→T}

pub lt_or_ge : (k n : ℕ) → (k < n) ⊎ (n ≤ k)
lt_or_ge k n = split (ltb k n) (λ e. inl (ltb-true k n e)) (λ e. inr (ltb-false k n e))

-- what holds of n and of each number below n holds of each below n + 1
below : (P : ℕ → Type 0) (n : ℕ) → P n → ((j : ℕ) → j < n → P j) → (j : ℕ) → j < suc n → P j
below P n here rest j h = ⊎_elim (λ e. subst P (sym e) here) (rest j) (eq-or-lt_of_le (le_of_suc-le-suc h))

pub every_at : (n : ℕ) (p : ℕ → Bool) → every n p ≡ true → (j : ℕ) → j < n → p j ≡ true
unfolding every
every_at zero p e j h = absurd (omega arith)
every_at (suc n) p e j h = let (here, rest) = both (p n) (every n p) e in below (λ i. p i ≡ true) n here (every_at n p rest) j h

-- the same of a test that computes
pub each : (n : ℕ) (p : ℕ → Bool) → T (every n p) → (j : ℕ) → j < n → T (p j)
each n p t j h = true→T (every_at n p (T→true (every n p) t) j h)

pub none_at : (n : ℕ) (p : ℕ → Bool) → some n p ≡ false → (j : ℕ) → j < n → p j ≡ false
unfolding some
none_at zero p e j h = absurd (omega arith)
none_at (suc n) p e j h = let (here, rest) = neither (p n) (some n p) e in below (λ i. p i ≡ false) n here (none_at n p rest) j h

pub none_is : (n : ℕ) (p : ℕ → Bool) → ((j : ℕ) → j < n → p j ≡ false) → some n p ≡ false
unfolding some
none_is zero p h = refl
none_is (suc n) p h = rw (h n (omega arith)) (none_is n p (λ j l. h j (omega arith)))

pub every_is : (n : ℕ) (p : ℕ → Bool) → ((j : ℕ) → j < n → p j ≡ true) → every n p ≡ true
unfolding every
every_is zero p h = refl
every_is (suc n) p h = rw (h n (omega arith)) (every_is n p (λ j l. h j (omega arith)))

pub some_at : (n : ℕ) (p : ℕ → Bool) (j : ℕ) → j < n → p j ≡ true → some n p ≡ true
some_at n p j h t = split (some n p) (λ e. e) (λ e. clash t (none_at n p e j h))

pub some_same : (n : ℕ) (p q : ℕ → Bool) → ((k : ℕ) → k < n → p k ≡ q k) → some n p ≡ some n q
unfolding some
some_same zero p q e = refl
some_same (suc n) p q e = rw (e n (omega arith), some_same n p q (λ k h. e k (omega arith)))

-- a number below n that passes, or that none does
pub found : (n : ℕ) (p : ℕ → Bool) → ((j : ℕ) × (j < n) × (p j ≡ true)) ⊎ ((j : ℕ) → j < n → p j ≡ false)
found zero p = inr (λ j h. absurd (omega arith))
found (suc n) p = split (p n)
    (λ t. inl (n, (omega arith), t))
    (λ t. ⊎_elim (λ r. inl (r.0, (omega arith), r.2)) (λ r. inr (below (λ j. p j ≡ false) n t r)) (found n p))

pub some_is : (n : ℕ) (p : ℕ → Bool) → some n p ≡ true → (j : ℕ) × (j < n) × (p j ≡ true)
some_is n p e = ⊎_elim (λ r. r) (λ none. clash e (none_is n p none)) (found n p)
