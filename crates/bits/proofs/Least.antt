-- The least number that passes a test, and the loop that searches for it upward: the invariant, where it starts, one turn, and what it
-- says where the test passes and at the end. Assumes nothing.
use Prim.Native.Nat.{ℕ, zero, suc, ◌+◌, ◌≤◌, ◌<◌}
use native.Mathlib.Omega.{arith}
use mathlib.Core.Path.{◌≡◌, refl, sym, ap, ◌∙◌}
use mathlib.Core.Bool.{Bool, true, false, cond, not, ◌&&◌, and-false}
use mathlib.Core.Logic.{◌⊎◌, inl, inr, ⊎_elim}
use lib.Dec.{eqb}
use borrow.Author.Tests.{eqb-true, eqb-false, eq-eqb, ne_eqb, not-false}
use Rattle.bits.specs.Search.{every, least, IsLeast}
use Rattle.bits.proofs.Cases.{split, clash}
use Rattle.bits.proofs.Search.{every_at, every_is}

pub least_is : (n i : ℕ) (p : ℕ → Bool) → i < n → ((j : ℕ) → j < i → p j ≡ false) → p i ≡ true → least n p ≡ i
unfolding least
least_is zero i p h none e = absurd (omega arith)
least_is (suc n) zero p h none e = rw e
least_is (suc n) (suc i) p h none e = rw (none 0 (omega arith)) (ap suc (least_is n i (λ j. p (suc j)) (omega arith) (λ j l. none (suc j) (omega arith)) e))

pub least_none : (n : ℕ) (p : ℕ → Bool) → ((j : ℕ) → j < n → p j ≡ false) → least n p ≡ n
unfolding least
least_none zero p none = refl
least_none (suc n) p none = rw (none 0 (omega arith)) (ap suc (least_none n (λ j. p (suc j)) (λ j l. none (suc j) (omega arith))))

pub least_le : (n : ℕ) (p : ℕ → Bool) → least n p ≤ n
unfolding least
least_le zero p = omega arith
least_le (suc n) p = split (p 0) (λ t. rw t (omega arith)) (λ t. rw t (omega (arith, least_le n (λ j. p (suc j)))))

pub least_below : (n : ℕ) (p : ℕ → Bool) (j : ℕ) → j < least n p → p j ≡ false
unfolding least
least_below zero p j h = absurd (omega arith)
least_below (suc n) p zero h = split (p 0) (λ t. let z : 0 < 0 = rw t at h in absurd (omega arith)) (λ t. t)
least_below (suc n) p (suc j) h = split (p 0) (λ t. let z : suc j < 0 = rw t at h in absurd (omega arith)) (λ t. let z : suc j < suc (least n (λ j. p (suc j))) = rw t at h in least_below n (λ j. p (suc j)) j (omega arith))

least_at : (n : ℕ) (p : ℕ → Bool) → least n p < n → p (least n p) ≡ true
unfolding least
least_at zero p h = absurd (omega arith)
least_at (suc n) p h = split (p 0) (λ t. rw t t) (λ t. let z : suc (least n (λ j. p (suc j))) < suc n = rw t at h in rw t (least_at n (λ j. p (suc j)) (omega arith)))

-- what is found is the least that passes
pub found_least : (n : ℕ) (p : ℕ → Bool) → least n p < n → IsLeast n p (least n p)
found_least n p h = record { within = h; passes = least_at n p h; none = least_below n p }

pub every_not : (n : ℕ) (p : ℕ → Bool) (j : ℕ) → j < n → p j ≡ false → every n p ≡ false
every_not n p j h e = split (every n p) (λ t. clash (every_at n p t j h) e) (λ t. t)

-- none below n fails
pub every_least : (n : ℕ) (p : ℕ → Bool) → eqb (least n (λ j. not (p j))) n ≡ every n p
every_least n p = split (every n p)
    (λ t. rw t (eq-eqb _ _ (least_none n (λ j. not (p j)) (λ j h. rw (every_at n p t j h)))))
    (λ t. rw t (ne_eqb _ _ (λ e. clash (every_is n p (λ j h. not-false (p j) (least_below n (λ j. not (p j)) j (up j h e)))) t)))
  where
    up : (j : ℕ) → j < n → least n (λ j. not (p j)) ≡ n → j < least n (λ j. not (p j))
    up j h e = omega arith

-- ---- the loop

-- a search upward: none of the numbers below i passes
pub record Passed (p : ℕ → Bool) (n i : ℕ) : Type 0 where
  pub within : i ≤ n
  pub none : (j : ℕ) → j < i → p j ≡ false

pub start : (p : ℕ → Bool) (n : ℕ) → Passed p n 0
start p n = record { within = omega arith; none = λ j h. absurd (omega arith) }

pub turn : {p : ℕ → Bool} {n i : ℕ} → Passed p n i → i < n → p i ≡ false → Passed p n (i + 1)
turn {p} {n} {i} v h e = record { within = omega arith; none = λ j l. split (eqb j i) (λ t. rw (eqb_is j i t) e) (λ t. v.none j (less j l t)) }
  where
    eqb_is : (j i : ℕ) → eqb j i ≡ true → j ≡ i
    eqb_is j i t = eqb-true j i t

    less : (j : ℕ) → j < i + 1 → eqb j i ≡ false → j < i
    less j l t = let ne = eqb-false j i t in omega arith

pub here : {p : ℕ → Bool} {n i : ℕ} → Passed p n i → i < n → p i ≡ true → i ≡ least n p
here {p} {n} {i} v h e = sym (least_is n i p h v.none e)

pub past : {p : ℕ → Bool} {n i : ℕ} → Passed p n i → n ≤ i → n ≡ least n p
past {p} {n} {i} v h = sym (least_none n p (λ j l. v.none j (omega arith)))

-- ---- the same in a loop that goes on to the end

-- found is the least number below i that passes, or n where none does
pub record Sought (p : ℕ → Bool) (n i found : ℕ) : Type 0 where
  pub within : i ≤ n
  pub so_far : ((found ≡ n) × ((j : ℕ) → j < i → p j ≡ false)) ⊎ ((found < i) × (p found ≡ true) × ((j : ℕ) → j < found → p j ≡ false))

pub sought_start : (p : ℕ → Bool) (n : ℕ) → Sought p n 0 n
sought_start p n = record { within = omega arith; so_far = inl (refl, λ j h. absurd (omega arith)) }

pub sought_turn : {p : ℕ → Bool} {n i found : ℕ} {b : Bool} → Sought p n i found → i < n → b ≡ p i → Sought p n (i + 1) (cond (b && eqb found n) i found)
sought_turn {p} {n} {i} {found} {b} v h e = record {
  within = omega arith;
  so_far = ⊎_elim
      (λ (a : (found ≡ n) × ((j : ℕ) → j < i → p j ≡ false)). split b
      (λ t. rw (t, eq-eqb found n a.0) (inr ((omega arith), sym e ∙ t, a.1)))
      (λ t. rw t (inl (a.0, (turn (record { within = v.within; none = a.1 }) h (sym e ∙ t)).none))))
      (λ (a : (found < i) × (p found ≡ true) × ((j : ℕ) → j < found → p j ≡ false)).
      rw (ne_eqb found n (λ z. omega (arith, a.0)), and-false b) (inr ((omega (arith, a.0)), a.1, a.2)))
      v.so_far;
}

pub sought_end : {p : ℕ → Bool} {n i found : ℕ} → Sought p n i found → n ≤ i → found ≡ least n p
sought_end {p} {n} {i} {found} v h = ⊎_elim
    (λ (a : (found ≡ n) × ((j : ℕ) → j < i → p j ≡ false)). a.0 ∙ sym (least_none n p (λ j l. a.1 j (omega arith))))
    (λ (a : (found < i) × (p found ≡ true) × ((j : ℕ) → j < found → p j ≡ false)). let w = v.within in sym (least_is n found p (omega (arith, a.0)) a.2 a.1))
    v.so_far
