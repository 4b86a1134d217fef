-- Two neighbouring cells that hold a whole car or none, before and after, keep a row of whole cars: the lift's cells, and a shuttle's.
-- Assumes nothing.
use mathlib.Core.Path.{◌≡◌, refl, sym, ap, ◌∙◌}
use mathlib.Core.Bool.{Bool, true, false}
use Prim.Native.Nat.{ℕ, zero, suc, ◌+◌, ◌*◌, ◌%◌, ◌≤◌, ◌<◌}
use native.Mathlib.Decide.{dec_lt, dec_le}
use native.Mathlib.Omega.{arith}
use Rattle.bits.specs.Bits.{Bits, digit}
use Rattle.bits.proofs.Digits.{digit_one, digit_lt}
use Rattle.floor.proofs.Rows.{below, Whole}
use Rattle.rules_laws.proofs.Shift.{below_same, whole_same}

-- an even number of two cells is occupied: both or none
pub same_digit : (a b : Bool) → (digit a + digit b) % 2 ≡ 0 → a ≡ b
same_digit true true e = refl
same_digit true false e = absurd (omega arith)
same_digit false true e = absurd (omega arith)
same_digit false false e = refl

-- whole cars are an even number of cells
pub whole_even : (n : ℕ) (f : Bits) → Whole n f → below f n % 2 ≡ 0
whole_even n f w = go (below f n) (λ o. let q : n < n = (w n (omega arith) o).0 in omega arith)
  where
    go : (x : ℕ) → (x % 2 ≡ 1 → ⊥) → x % 2 ≡ 0
    go x h = omega arith

-- what is kept of n cells where none changes but the pair a and a + 1: whole cars, and whether the number below a place is even,
-- but for the place between the two
pub record PairKept (n a : ℕ) (f g : Bits) : Type 0 where
  pub whole : Whole n g
  pub parity : (k : ℕ) → k ≤ n → (k ≡ suc a → ⊥) → below g k % 2 ≡ below f k % 2

module _ (n a : ℕ) (f g : Bits)
    (out : (k : ℕ) → k < n → (k ≡ a → ⊥) → (k ≡ suc a → ⊥) → g k ≡ f k)
    (pf : f a ≡ f (suc a)) (pg : g a ≡ g (suc a)) (in_row : suc a < n) (ev : below f a % 2 ≡ 0) (w : Whole n f) where
  -- below the pair as many are occupied
  pub low : (k : ℕ) → k ≤ a → below g k ≡ below f k
  low zero h = refl
  low (suc k) h = omega (arith, low k (omega arith), ap digit (out k (omega arith) (λ e. omega arith) (λ e. omega arith)))

  -- above it they differ by what the pair gains
  pub high : (k : ℕ) → suc a < k → k ≤ n → below g k + 2 * digit (f a) ≡ below f k + 2 * digit (g a)
  high zero h l = omega arith
  high (suc k) h l =
      elim (dec_lt (suc a) k) [
        | yes r ↦ omega (arith, high k r (omega arith), ap digit (out k (omega arith) (λ e. omega arith) (λ e. omega arith)))
        | no r ↦ (let e : k ≡ suc a = omega arith in
            rw e (omega (arith, low a (omega arith), ap digit pf, ap digit pg)))
      ]

  pair_whole : Whole n g
  pair_whole k h p =
      elim (dec_lt k a) [
        | yes r ↦ (let q = w k h (omega (arith, low k (omega arith))) in
            (q.0, out k q.0 (λ e. omega arith) (λ e. omega arith) ∙ q.1))
        | no r ↦ elim (dec_le k a) [
          | yes s ↦ (let e : k ≡ a = omega arith in absurd (omega (arith, rw e at p, low a (omega arith))))
          | no s ↦ elim (dec_le k (suc a)) [
            | yes t ↦ (let e : k ≡ suc a = omega arith in
                let p' : below g (suc a) % 2 ≡ 1 = rw e at p in
                (omega arith, ap g e ∙ sym pg ∙ digit_one (g a) (omega (arith, low a (omega arith), digit_lt (g a)))))
            | no t ↦ (let q = w k h (omega (arith, high k (omega arith) h)) in
                (q.0, out k q.0 (λ e. omega arith) (λ e. omega arith) ∙ q.1))
          ]
        ]
      ]

  pair_parity : (k : ℕ) → k ≤ n → (k ≡ suc a → ⊥) → below g k % 2 ≡ below f k % 2
  pair_parity k h ne =
      elim (dec_le k a) [
        | yes r ↦ ap (λ (x : ℕ). x % 2) (low k r)
        | no r ↦ omega (arith, high k (omega arith) h)
      ]

  pub pair_kept : PairKept n a f g
  pair_kept = record { whole = pair_whole; parity = pair_parity }

-- the row as it was
pub row_kept : (n a : ℕ) (f g : Bits) → ((k : ℕ) → k < n → g k ≡ f k) → Whole n f → PairKept n a f g
row_kept n a f g e w = record { whole = whole_same f g n e w; parity = λ k h ne. ap (λ (x : ℕ). x % 2) (below_same f g n e k h) }
