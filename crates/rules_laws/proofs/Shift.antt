-- A span of cells that shifts by one toward a free end keeps the number of occupied cells and a row of whole cars.
-- Over every span and length. Assumes nothing.
use mathlib.Core.Path.{◌≡◌, refl, sym, ap, ◌∙◌}
use mathlib.Core.Bool.{false, false≢true}
use Prim.Native.Nat.{ℕ, zero, suc, ◌%◌, ◌≤◌, ◌<◌}
use native.Mathlib.Decide.{dec_lt, dec_le}
use native.Mathlib.Omega.{arith}
use Rattle.bits.specs.Bits.{Bits, digit}
use Rattle.floor.proofs.Rows.{below, Whole}

-- ---- a row that stays as it is

-- as many are occupied below each place
pub below_same : (f g : Bits) (n : ℕ) → ((k : ℕ) → k < n → g k ≡ f k) → (k : ℕ) → k ≤ n → below g k ≡ below f k
below_same f g n e zero h = refl
below_same f g n e (suc k) h = omega (arith, below_same f g n e k (omega arith), ap digit (e k (omega arith)))

-- and the cars stay whole
pub whole_same : (f g : Bits) (n : ℕ) → ((k : ℕ) → k < n → g k ≡ f k) → Whole n f → Whole n g
whole_same f g n e w k h p =
    let q = w k h (omega (arith, below_same f g n e k h)) in
    (q.0, e k q.0 ∙ q.1)

-- ---- a span that shifts

-- the span is the cells from a up to z, z among them; outside it the two records are the same
pub record Outside (a z : ℕ) (f g : Bits) : Type 0 where
  pub low : (k : ℕ) → k < a → g k ≡ f k
  pub high : (k : ℕ) → z < k → g k ≡ f k

-- the span shifts by one cell toward higher
pub record Up (a z : ℕ) (f g : Bits) : Type 0 where
  pub out : Outside a z f g
  pub left : g a ≡ false
  pub moved : (k : ℕ) → a ≤ k → k < z → g (suc k) ≡ f k

-- the span shifts by one cell toward lower
pub record Down (a z : ℕ) (f g : Bits) : Type 0 where
  pub out : Outside a z f g
  pub left : g z ≡ false
  pub moved : (k : ℕ) → a ≤ k → k < z → g k ≡ f (suc k)

-- what such a shift keeps: how many are occupied below each place outside, and whole cars where the span holds an even number
pub record Kept (a z : ℕ) (f g : Bits) : Type 0 where
  pub out : Outside a z f g
  pub low : (k : ℕ) → k ≤ a → below g k ≡ below f k
  pub high : (k : ℕ) → z < k → below g k ≡ below f k
  pub whole : (n : ℕ) → z < n → below f (suc z) % 2 ≡ below f a % 2 → Whole n f → Whole n g

-- two shifts of one span
pub then : {a z : ℕ} {f g h : Bits} → a ≤ z → Kept a z f g → Kept a z g h → Kept a z f h
then {a} {z} le p q = record {
  out = record { low = λ k l. q.out.low k l ∙ p.out.low k l; high = λ k l. q.out.high k l ∙ p.out.high k l };
  low = λ k l. q.low k l ∙ p.low k l;
  high = λ k l. q.high k l ∙ p.high k l;
  whole = λ n l ev w. q.whole n l (omega (arith, p.high (suc z) (omega arith), p.low a (omega arith))) (p.whole n l ev w);
}

-- a number that is not odd is even
even : (x : ℕ) → (x % 2 ≡ 1 → ⊥) → x % 2 ≡ 0
even x h = omega arith

module _ (a z : ℕ) (f g : Bits) (o : Outside a z f g) where
  -- above the span the counts agree if they do at its end
  below_high : below g (suc z) ≡ below f (suc z) → (k : ℕ) → z < k → below g k ≡ below f k
  below_high e zero h = omega arith
  below_high e (suc k) h =
      elim (dec_lt z k) [
        | yes p ↦ omega (arith, below_high e k p, ap digit (o.high k p))
        | no q ↦ let q' : k ≡ z = omega arith in rw q' e
      ]

-- ---- toward higher
module _ (a z : ℕ) (f g : Bits) (az : a ≤ z) (u : Up a z f g) (last : f z ≡ false) where
  up_low : (k : ℕ) → k ≤ a → below g k ≡ below f k
  up_low = below_same f g a u.out.low

  -- inside, the count is that of one cell lower
  up_mid : (k : ℕ) → a ≤ k → k ≤ z → below g (suc k) ≡ below f k
  up_mid zero p q =
      let e : zero ≡ a = omega arith in
      omega (arith, ap digit (rw (← e) at u).left)
  up_mid (suc k) p q =
      elim (dec_le a k) [
        | yes r ↦ omega (arith, up_mid k r (omega arith), ap digit (u.moved k r (omega arith)))
        | no r ↦ (let e : suc k ≡ a = omega arith in
            omega (arith, up_low (suc k) (omega arith), ap digit (rw (← e) at u).left))
      ]

  up_high : (k : ℕ) → z < k → below g k ≡ below f k
  up_high = below_high a z f g u.out (omega (arith, up_mid z az (omega arith), ap digit last))

  module _ (n : ℕ) (zn : z < n) (ev : below f (suc z) % 2 ≡ below f a % 2) (w : Whole n f) where
    -- the span starts with a whole number of cars below it
    up_even : below f a % 2 ≡ 0
    up_even = even (below f a) λ p. false≢true (sym last ∙ (w z (omega arith) (omega (arith, ap digit last))).1)

    up_whole : Whole n g
    up_whole zero h p = absurd (omega arith)
    up_whole (suc k) h p =
        elim (dec_lt (suc k) a) [
          | yes r ↦ (let q = w (suc k) h (omega (arith, up_low (suc k) (omega arith))) in
              (q.0, u.out.low (suc k) r ∙ q.1))
          | no r ↦ elim (dec_lt k a) [
            | yes s ↦ (let e : suc k ≡ a = omega arith in
                absurd (omega (arith, up_low (suc k) (omega arith), rw (← e) at up_even)))
            | no s ↦ elim (dec_lt k z) [
              | yes t ↦ (let q = w k (omega arith) (omega (arith, up_mid k (omega arith) (omega arith))) in
                  (omega arith, u.moved k (omega arith) t ∙ q.1))
              | no t ↦ (let q = w (suc k) h (omega (arith, up_high (suc k) (omega arith))) in
                  (q.0, u.out.high (suc k) (omega arith) ∙ q.1))
            ]
          ]
        ]

  pub up_kept : Kept a z f g
  up_kept = record { out = u.out; low = up_low; high = up_high; whole = up_whole }

-- ---- toward lower
module _ (a z : ℕ) (f g : Bits) (az : a ≤ z) (d : Down a z f g) (first : f a ≡ false) where
  down_low : (k : ℕ) → k ≤ a → below g k ≡ below f k
  down_low = below_same f g a d.out.low

  -- inside, the count is that of one cell higher
  down_mid : (k : ℕ) → a ≤ k → k ≤ z → below g k ≡ below f (suc k)
  down_mid zero p q =
      let e : zero ≡ a = omega arith in
      omega (arith, ap digit (rw (← e) at first))
  down_mid (suc k) p q =
      elim (dec_le a k) [
        | yes r ↦ omega (arith, down_mid k r (omega arith), ap digit (d.moved k r (omega arith)))
        | no r ↦ (let e : suc k ≡ a = omega arith in
            omega (arith, down_low (suc k) (omega arith), ap digit (rw (← e) at first)))
      ]

  down_high : (k : ℕ) → z < k → below g k ≡ below f k
  down_high = below_high a z f g d.out (omega (arith, down_mid z az (omega arith), ap digit d.left))

  module _ (n : ℕ) (zn : z < n) (ev : below f (suc z) % 2 ≡ below f a % 2) (w : Whole n f) where
    -- the span starts with a whole number of cars below it
    down_even : below f a % 2 ≡ 0
    down_even = even (below f a) λ p. false≢true (sym first ∙ (w a (omega arith) p).1)

    down_whole : Whole n g
    down_whole k h p =
        elim (dec_lt k a) [
          | yes r ↦ (let q = w k h (omega (arith, down_low k (omega arith))) in
              (q.0, d.out.low k r ∙ q.1))
          | no r ↦ elim (dec_lt k z) [
            | yes s ↦ (let q = w (suc k) (omega arith) (omega (arith, down_mid k (omega arith) (omega arith))) in
                (omega arith, d.moved k (omega arith) s ∙ q.1))
            | no s ↦ elim (dec_lt z k) [
              | yes t ↦ (let q = w k h (omega (arith, down_high k t)) in
                  (q.0, d.out.high k t ∙ q.1))
              | no t ↦ (let e : k ≡ z = omega arith in
                  absurd (omega (arith, down_mid z az (omega arith), rw e at p, down_even)))
            ]
          ]
        ]

  pub down_kept : Kept a z f g
  down_kept = record { out = d.out; low = down_low; high = down_high; whole = down_whole }
