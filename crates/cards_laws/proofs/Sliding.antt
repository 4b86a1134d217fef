-- A span of cells that slides by n toward a free end takes along the places that bear a number, and leaves all others. Over every span and
-- n. Assumes nothing.
use mathlib.Core.Path.{◌≡◌, sym, ap, ap₂, ◌∙◌}
use mathlib.Core.Logic.{◌⊎◌, inl, inr, ⊎_elim}
use mathlib.Core.Bool.{Bool, false, ◌&&◌}
use Prim.Native.Nat.{ℕ, zero, suc, ◌+◌, ◌-◌, ◌%◌, ◌≤◌, ◌<◌}
use native.Mathlib.Omega.{arith}
use lib.Dec.{eqb}
use borrow.Author.Tests.{lt-ltb, le-ltb}
use Rattle.bits.specs.Bits.{Bits, digit}
use Rattle.floor.proofs.Rows.{below}
use Rattle.rules_laws.proofs.Shift.{below_same}
use Rattle.cards.specs.Given.{bears}
use Rattle.cards_laws.proofs.Anchors.{bears_row, bears_same}

-- the m + n cells from a on slide up by n: the first n are then free, the last n were
pub record Slid (a m n : ℕ) (f g : Bits) : Type 0 where
  pub low : (k : ℕ) → k < a → g k ≡ f k
  pub high : (k : ℕ) → a + m + n ≤ k → g k ≡ f k
  pub left : (d : ℕ) → d < n → g (a + d) ≡ false
  pub moved : (d : ℕ) → d < m → g (a + d + n) ≡ f (a + d)
  pub end : (d : ℕ) → d < n → f (a + m + d) ≡ false

-- ---- how many are occupied below a place

-- as many past free cells
past_free : (f : Bits) (a n : ℕ) → ((d : ℕ) → d < n → f (a + d) ≡ false) → (d : ℕ) → d ≤ n → below f (a + d) ≡ below f a
past_free f a n e zero h = let i : a + 0 ≡ a = omega arith in ap (below f) i
past_free f a n e (suc d) h =
    let i : a + suc d ≡ suc (a + d) = omega arith in
    ap (below f) i ∙ omega (arith, past_free f a n e d (omega arith), ap digit (e d (omega arith)))

module _ (a m n : ℕ) (f g : Bits) (s : Slid a m n f g) where
  low_same : (k : ℕ) → k ≤ a → below g k ≡ below f k
  low_same = below_same f g a s.low

  -- inside, the count is that of n cells lower
  inner : (d : ℕ) → d ≤ m → below g (a + d + n) ≡ below f (a + d)
  inner zero h =
      let i : a + 0 + n ≡ a + n = omega arith in
      let j : a ≡ a + 0 = omega arith in
      ap (below g) i ∙ past_free g a n s.left n (omega arith) ∙ low_same a (omega arith) ∙ ap (below f) j
  inner (suc d) h =
      let i : a + suc d + n ≡ suc (a + d + n) = omega arith in
      let j : suc (a + d) ≡ a + suc d = omega arith in
      ap (below g) i ∙ omega (arith, inner d (omega arith), ap digit (s.moved d (omega arith))) ∙ ap (below f) j

  -- above it nothing is gained or lost
  high_same : (d : ℕ) → below g (a + m + n + d) ≡ below f (a + m + n + d)
  high_same zero =
      let i : a + m + n + 0 ≡ a + m + n = omega arith in
      ap (below g) i ∙ inner m (omega arith) ∙ sym (past_free f (a + m) n s.end n (omega arith)) ∙ sym (ap (below f) i)
  high_same (suc d) =
      let i : a + m + n + suc d ≡ suc (a + m + n + d) = omega arith in
      ap (below g) i ∙ omega (arith, high_same d, ap digit (s.high (a + m + n + d) (omega arith))) ∙ sym (ap (below f) i)

  outer_same : (k : ℕ) → (k ≤ a) ⊎ (a + m + n ≤ k) → below g k ≡ below f k
  outer_same k h = ⊎_elim
      (λ (l : k ≤ a). low_same k l)
      (λ (l : a + m + n ≤ k). let d : ℕ = k - (a + m + n) in
      let i : k ≡ a + m + n + d = omega arith in
      ap (below g) i ∙ high_same d ∙ sym (ap (below f) i)) h

  -- ---- the places that bear a number

  pub slid_outside : (k : ℕ) → (k < a) ⊎ (a + m + n ≤ k) → bears g k ≡ bears f k
  slid_outside k h =
      let same : g k ≡ f k = ⊎_elim (s.low k) (s.high k) h in
      let under : below g k ≡ below f k = outer_same k (⊎_elim (λ (l : k < a). inl (omega arith)) inr h) in
      bears_same f g k same (λ r. ap (λ (x : ℕ). x % 2) under)

  -- a span in row 1, or in rows 2 and 3
  module _ (row : (a + m + n ≤ 20) ⊎ ((20 ≤ a) × (a + m + n ≤ 40))) where
    pub slid_inside : (d : ℕ) → d < m → bears g (a + d + n) ≡ bears f (a + d)
    slid_inside d h = ⊎_elim
        (λ (l : a + m + n ≤ 20).
        let u : below g (a + d + n) ≡ below f (a + d) = inner d (omega arith) in
        bears_row g (a + d + n) (lt-ltb (a + d + n) 20 (omega arith))
        ∙ ap₂ (λ (b : Bool) (x : ℕ). b && eqb (x % 2) 0) (s.moved d h) u
        ∙ sym (bears_row f (a + d) (lt-ltb (a + d) 20 (omega arith))))
        (λ (l : (20 ≤ a) × (a + m + n ≤ 40)).
        rw (
          le-ltb (a + d + n) 20 (omega arith),
          le-ltb (a + d) 20 (omega arith),
          lt-ltb (a + d + n) 40 (omega arith),
          lt-ltb (a + d) 40 (omega arith),
          s.moved d h,
        ))
        row
