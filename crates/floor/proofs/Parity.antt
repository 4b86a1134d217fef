-- Row 1 tested by parities: a number each of whose bits says whether an odd number of the bits up to it is 1, made by doubling a window.
-- Assumes nothing.
use mathlib.Core.Path.{◌≡◌, refl, sym, ap, ap₂, ◌∙◌}
use mathlib.Core.Bool.{Bool, true, false, not, ◌&&◌, and-false}
use Prim.Native.Nat.{ℕ, zero, suc, ◌+◌, ◌-◌, ◌*◌, ◌/◌, ◌%◌, ◌^◌, ◌<◌}
use native.Mathlib.Omega.{arith}
use lib.Bits.{bit_and, bit_xor, xor_shr, xor_add_and}
use lib.Dec.{eqb, leb, ltb}
use borrow.Author.Tests.{lt-ltb, le-leb, lt-leb, ltb-true, ltb-false, eqb-true, eq-eqb, ne_eqb}
use Rattle.bits.specs.Bits.{Bits, bit, digit}
use Rattle.bits.proofs.Cases.{split, clash, both, alike}
use Rattle.bits.proofs.Digits.{digit_lt, digit_mod, bit_none, bit_past, bit_ext}
use Rattle.bits.proofs.Operations.{bit_and_lem, bit_not, bit_shl, bit_low, bit_64}
use Rattle.floor.specs.Sound.{paired}
use Rattle.floor.proofs.Rows.{below, Whole, whole_iff_paired}

-- ---- windows

-- bit k of x says whether an odd number of the w bits up to k, with k, is 1 in f
abbrev pub Window : Bits → ℕ → ℕ → Type 0
Window f w x = (k : ℕ) → k < 64 → digit (bit x k) ≡ (below f (suc k) + below f (suc k - w)) % 2

xor_digit : (x y k : ℕ) → digit (bit (bit_xor x y) k) ≡ (digit (bit x k) + digit (bit y k)) % 2
xor_digit x y k =
    digit_mod (bit_xor x y / 2 ^ k) ∙ ap (λ (z : ℕ). z % 2) (xor_shr x y k)
    ∙ omega (arith, xor_add_and (x / 2 ^ k) (y / 2 ^ k), digit_mod (x / 2 ^ k), digit_mod (y / 2 ^ k))

-- a number is the window of one bit
pub window_one : (x : ℕ) → Window (bit x) 1 x
window_one x k h =
    let e : suc k - 1 ≡ k = omega arith in
    omega (arith, ap (below (bit x)) e, digit_lt (bit x k))

-- xored with itself shifted by its width, a window is twice as wide
pub window_twice : (f : Bits) (w x : ℕ) → Window f w x → Window f (w + w) (bit_xor x (x * 2 ^ w % 2 ^ 64))
window_twice f w x v k h = xor_digit x (x * 2 ^ w % 2 ^ 64) k ∙ split (ltb k w)
    (λ t.
    let l = ltb-true k w t in
    let e : suc k - w ≡ 0 = omega arith in
    let d : suc k - (w + w) ≡ 0 = omega arith in
    let n : digit (bit (x * 2 ^ w % 2 ^ 64) k) ≡ 0 = ap digit (shl ∙ ap (λ (b : Bool). b && bit x (k - w)) (lt-leb w k l)) in
    omega (arith, n, v k h, ap (below f) e, ap (below f) d))
    (λ t.
    let l = ltb-false k w t in
    let e : suc (k - w) ≡ suc k - w = omega arith in
    let d : suc (k - w) - w ≡ suc k - (w + w) = omega arith in
    let n : digit (bit (x * 2 ^ w % 2 ^ 64) k) ≡ digit (bit x (k - w)) = ap digit (shl ∙ ap (λ (b : Bool). b && bit x (k - w)) (le-leb w k l)) in
    omega (arith, n, v k h, v (k - w) (omega arith), ap (below f) e, ap (below f) d))
  where
    shl : bit (x * 2 ^ w % 2 ^ 64) k ≡ leb w k && bit x (k - w)
    shl = bit_64 (x * 2 ^ w) k h ∙ bit_shl x w k

-- ---- the test

-- only the cells of the row are looked at
paired_same : (n k : ℕ) (half : Bool) (f g : Bits) → ((j : ℕ) → j < k + n → f j ≡ g j) → paired n k half f ≡ paired n k half g
unfolding paired
paired_same zero k half f g e = refl
paired_same (suc n) k false f g e = ap (λ (b : Bool). paired n (suc k) b f) (e k (omega arith)) ∙ paired_same n (suc k) (g k) f g (λ j h. e j (omega arith))
paired_same (suc n) k true f g e = ap₂ ◌&&◌ (e k (omega arith)) (paired_same n (suc k) false f g (λ j h. e j (omega arith)))

module _ (r p : ℕ) (v : Window (bit (r % 2 ^ 20)) 32 p) where
  -- the row alone
  abbrev row : Bits
  row = bit (r % 2 ^ 20)

  -- where the number of occupied cells below k is odd and cell k is free, no car ends
  abbrev torn : ℕ
  torn = bit_and (p * 2 ^ 1 % 2 ^ 64) (2 ^ 64 - 1 - r % 2 ^ 20) % 2 ^ 21

  odd_at : (k : ℕ) → k < 21 → bit (p * 2 ^ 1) k ≡ eqb (below row k % 2) 1
  odd_at zero h = bit_shl p 1 0
  odd_at (suc k) h =
      let e : suc k - 1 ≡ k = omega arith in
      let d : suc k - 32 ≡ 0 = omega arith in
      let n : digit (bit p k) ≡ below row (suc k) % 2 = omega (arith, v k (omega arith), ap (below row) d) in
      bit_shl p 1 (suc k) ∙ ap₂ ◌&&◌ (le-leb 1 (suc k) (omega arith)) (ap (bit p) e) ∙ go (bit p k) n
    where
      go : (b : Bool) → digit b ≡ below row (suc k) % 2 → b ≡ eqb (below row (suc k) % 2) 1
      go true n = sym (eq-eqb _ 1 (sym n))
      go false n = sym (ne_eqb (below row (suc k) % 2) 1 (λ (o : below row (suc k) % 2 ≡ 1). omega (arith, n, o)))

  torn_at : (k : ℕ) → k < 21 → bit torn k ≡ eqb (below row k % 2) 1 && not (row k)
  torn_at k h =
      bit_low _ 21 k ∙ ap (λ (b : Bool). b && bit (bit_and (p * 2 ^ 1 % 2 ^ 64) (2 ^ 64 - 1 - r % 2 ^ 20)) k) (lt-ltb k 21 h)
      ∙ bit_and_lem (p * 2 ^ 1 % 2 ^ 64) (2 ^ 64 - 1 - r % 2 ^ 20) k
      ∙ ap₂ ◌&&◌ (bit_64 (p * 2 ^ 1) k (omega arith) ∙ odd_at k h) (bit_not 64 (r % 2 ^ 20) k (omega arith) (omega arith))

  whole : eqb torn 0 ≡ true → Whole 20 row
  whole e k h o = split (row k)
      (λ t. (ltb-true k 20 (both (ltb k 20) (bit r k) (sym (bit_low r 20 k) ∙ t)).0, t))
      (λ t. clash (torn_at k (omega arith) ∙ ap₂ (λ (a b : Bool). a && not b) (eq-eqb _ 1 o) t) (ap (λ (x : ℕ). bit x k) (eqb-true torn 0 e) ∙ bit_none k))

  none : Whole 20 row → eqb torn 0 ≡ true
  none w = eq-eqb torn 0 (bit_ext 64 torn 0 (omega arith) (omega arith) (λ k h. split (ltb k 21)
      (λ t. let l = ltb-true k 21 t in torn_at k l ∙ free k l ∙ sym (bit_none k))
      (λ t. bit_past torn 21 k (omega arith) (ltb-false k 21 t) ∙ sym (bit_none k))))
    where
      free : (k : ℕ) → k < 21 → eqb (below row k % 2) 1 && not (row k) ≡ false
      free k l = split (eqb (below row k % 2) 1)
          (λ o. rw (w k (omega arith) (eqb-true _ 1 o)).1 (and-false (eqb (below row k % 2) 1)))
          (λ o. rw o)

  pub row_law : eqb torn 0 ≡ paired 20 0 false (bit r)
  row_law =
      alike (eqb torn 0) (paired 20 0 false row) (λ e. (whole_iff_paired row).1 (whole e)) (λ e. none ((whole_iff_paired row).0 e))
      ∙ paired_same 20 0 false row (bit r) (λ j h. bit_low r 20 j ∙ ap (λ (b : Bool). b && bit r j) (lt-ltb j 20 h))
