-- A number by its binary digits: the bits of a packed number are those packed, equal bits make equal numbers,
-- and a number is the image of its bits. Assumes nothing.
use mathlib.Core.Path.{◌≡◌, refl, sym, ap, ap₂, ◌∙◌}
use mathlib.Core.Bool.{Bool, true, false}
use Prim.Native.Nat.{ℕ, zero, suc, ◌+◌, ◌-◌, ◌*◌, ◌/◌, ◌%◌, ◌^◌, ◌≤◌, ◌<◌}
use native.Mathlib.Nat.{mod-eq_of_lt, pow-suc, pow-succ', lt_of_lt_of_le, div-eq_of_lt}
use native.Mathlib.Numerals.{add-one}
use native.Mathlib.Omega.{arith}
use borrow.Author.Tests.{eqb-true, eqb-false, eq-eqb, ne_eqb}
use lib.Dec.{eqb, eqb-zero-suc, eqb-suc-zero, eqb-suc-suc}
use lib.Pow.{pow_mono, pow_pos, mod-pow-add, shr-shr}
use Rattle.bits.specs.Bits.{Bits, bit, digit, packed, image}

pub digit_lt : (b : Bool) → digit b < 2
digit_lt true = omega arith
digit_lt false = omega arith

pub digit_one : (b : Bool) → 0 < digit b → b ≡ true
digit_one true e = refl
digit_one false e = absurd (omega arith)

pub digit_zero : (b : Bool) → digit b ≡ 0 → b ≡ false
digit_zero true e = absurd (omega arith)
digit_zero false e = refl

-- the digit of an odd number is its remainder
pub digit_mod : (x : ℕ) → digit (eqb (x % 2) 1) ≡ x % 2
digit_mod x = go (eqb (x % 2) 1) refl
  where
    go : (b : Bool) → eqb (x % 2) 1 ≡ b → digit b ≡ x % 2
    go true e = sym (eqb-true (x % 2) 1 e)
    go false e = let n : x % 2 ≡ 1 → ⊥ = eqb-false (x % 2) 1 e in omega arith

odd_digit : (m : ℕ) (b : Bool) → eqb ((m * 2 + digit b) % 2) 1 ≡ b
odd_digit m true = eq-eqb ((m * 2 + 1) % 2) 1 (omega arith)
odd_digit m false = ne_eqb ((m * 2 + 0) % 2) 1 (omega arith)

half_digit : (m : ℕ) (b : Bool) → (m * 2 + digit b) / 2 ≡ m
half_digit m b = omega (arith, digit_lt b)

over_one : (r : ℕ) → r / 1 ≡ r
over_one r = omega arith

pub bit_zero : (r : ℕ) → bit r 0 ≡ eqb (r % 2) 1
bit_zero r = ap (λ (x : ℕ). eqb (x % 2) 1) (over_one r)

-- bit k + 1 of r is bit k of r / 2
pub bit_suc : (r k : ℕ) → bit r (suc k) ≡ bit (r / 2) k
bit_suc r k = ap (λ (x : ℕ). eqb (x % 2) 1) (ap (λ (x : ℕ). r / 2 ^ x) (omega arith) ∙ sym (shr-shr r 1 k))

-- the bits of a packed number are those packed
pub bit_packed : (n k : ℕ) (f : Bits) (j : ℕ) → j < n → bit (packed n k f) j ≡ f (k + j)
unfolding packed
bit_packed zero k f j h = absurd (omega arith)
bit_packed (suc n) k f zero h =
    bit_zero (packed n (suc k) f * 2 + digit (f k)) ∙ odd_digit (packed n (suc k) f) (f k) ∙ ap f (omega arith)
bit_packed (suc n) k f (suc j) h =
    bit_suc (packed n (suc k) f * 2 + digit (f k)) j ∙ ap (λ (x : ℕ). bit x j) (half_digit (packed n (suc k) f) (f k)) ∙ bit_packed n (suc k) f j (omega arith) ∙ ap f (omega arith)

-- equal bits, equal numbers
pub packed_ext : (n k : ℕ) (f g : Bits) → ((j : ℕ) → k ≤ j → j < k + n → f j ≡ g j) → packed n k f ≡ packed n k g
unfolding packed
packed_ext zero k f g e = refl
packed_ext (suc n) k f g e =
    ap₂ (λ (x : ℕ) (b : Bool). x * 2 + digit b) (packed_ext n (suc k) f g (λ j l h. e j (omega arith) (omega arith))) (e k (omega arith) (omega arith))

-- the n digits of r from k on
pub packed_bit : (n k r : ℕ) → packed n k (bit r) ≡ r / 2 ^ k % 2 ^ n
unfolding packed
packed_bit zero k r = omega arith
packed_bit (suc n) k r =
    ap₂ (λ (x y : ℕ). x * 2 + y)
    (packed_bit n (suc k) r ∙ ap (λ (x : ℕ). x % 2 ^ n) (ap (λ (x : ℕ). r / 2 ^ x) (sym (add-one k)) ∙ sym (shr-shr r k 1)))
    (digit_mod (r / 2 ^ k))
    ∙ sym (mod-pow-add (r / 2 ^ k) n 1) ∙ ap (λ (x : ℕ). r / 2 ^ k % 2 ^ x) (add-one n)

pub packed_lt : (n k : ℕ) (f : Bits) → packed n k f < 2 ^ n
unfolding packed
packed_lt zero k f = omega arith
packed_lt (suc n) k f = omega (arith, pow-suc 2 n, packed_lt n (suc k) f, digit_lt (f k))

-- ---- numbers of n digits

pub packed_all : (n r : ℕ) → r < 2 ^ n → packed n 0 (bit r) ≡ r
packed_all n r h = packed_bit n 0 r ∙ mod-eq_of_lt (omega arith) ∙ omega arith

-- equal bits, equal numbers
pub bit_ext : (n r s : ℕ) → r < 2 ^ n → s < 2 ^ n → ((k : ℕ) → k < n → bit r k ≡ bit s k) → r ≡ s
bit_ext n r s hr hs e = sym (packed_all n r hr) ∙ packed_ext n 0 (bit r) (bit s) (λ k l h. e k (omega arith)) ∙ packed_all n s hs

-- ---- images

pub bit_image : (f : Bits) (k : ℕ) → k < 64 → bit (image f) k ≡ f k
bit_image f k h = bit_packed 64 0 f k h ∙ ap f (omega arith)

pub image_bit : (r : ℕ) → r < 2 ^ 64 → image (bit r) ≡ r
image_bit r h = packed_all 64 r h

pub image_ext : (f g : Bits) → ((k : ℕ) → k < 64 → f k ≡ g k) → image f ≡ image g
image_ext f g e = packed_ext 64 0 f g (λ k l h. e k (omega arith))

-- past its digits a number has no bit
pub bit_past : (x w k : ℕ) → x < 2 ^ w → w ≤ k → bit x k ≡ false
bit_past x w k h l = ap (λ (z : ℕ). eqb (z % 2) 1) (div-eq_of_lt (lt_of_lt_of_le h (pow_mono l)))

-- a number whose bits are those of f carries f
pub by_bits : (x : ℕ) (f : Bits) → x < 2 ^ 64 → ((k : ℕ) → k < 64 → bit x k ≡ f k) → x ≡ image f
by_bits x f h e = sym (image_bit x h) ∙ image_ext (bit x) f e

-- ---- 0, powers of two, all ones

pub bit_none : (k : ℕ) → bit 0 k ≡ false
bit_none zero = refl
bit_none (suc k) = bit_suc 0 k ∙ bit_none k

pub bit_pow : (j k : ℕ) → bit (2 ^ j) k ≡ eqb j k
bit_pow zero zero = refl
bit_pow zero (suc k) = bit_suc 1 k ∙ bit_none k ∙ sym (eqb-zero-suc k)
bit_pow (suc j) zero = let e : 2 ^ suc j % 2 ≡ 0 = omega (arith, pow-succ' 2 j) in bit_zero (2 ^ suc j) ∙ rw (e, eqb-suc-zero)
bit_pow (suc j) (suc k) = let e : 2 ^ suc j / 2 ≡ 2 ^ j = omega (arith, pow-succ' 2 j) in bit_suc (2 ^ suc j) k ∙ rw (e, eqb-suc-suc) (bit_pow j k)

pub bit_ones : (n k : ℕ) → k < n → bit (2 ^ n - 1) k ≡ true
bit_ones zero k h = absurd (omega arith)
bit_ones (suc n) zero h = let e : (2 ^ suc n - 1) % 2 ≡ 1 = omega (arith, pow-succ' 2 n, pow_pos n) in bit_zero (2 ^ suc n - 1) ∙ rw e
bit_ones (suc n) (suc k) h = let e : (2 ^ suc n - 1) / 2 ≡ 2 ^ n - 1 = omega (arith, pow-succ' 2 n, pow_pos n) in bit_suc (2 ^ suc n - 1) k ∙ rw e (bit_ones n k (omega arith))
