-- What the machine's operations do to each bit: and, or, not, shifts, remainders. Assumes nothing.
use mathlib.Core.Path.{◌≡◌, refl, sym, ap, ap₂, ◌∙◌}
use mathlib.Core.Bool.{◌&&◌, ◌||◌, not}
use mathlib.Core.Logic.{⊎_elim}
use Prim.Native.Nat.{ℕ, zero, suc, ◌+◌, ◌-◌, ◌*◌, ◌/◌, ◌%◌, ◌^◌, ◌<◌, min, max}
use native.Mathlib.Nat.{mod-lt, zero-lt-suc, mul-one, one-mul, zero-add, pow-suc}
use native.Mathlib.Omega.{arith}
use borrow.Author.Tests.{lt-ltb, le-ltb, le-leb, eqb-true, eqb-false, eq-eqb, ne_eqb}
use lib.Dec.{eqb, leb, ltb, leb-suc-suc, leb-suc-zero}
use lib.Pow.{shr-shr, pow_pos, shl_exact}
use lib.Bits.{bit_and, bit_or, and_step, or_step, and_shr, or_shr, shifted_half, shifted_even}
use Rattle.bits.specs.Bits.{bit, packed}
use Rattle.bits.proofs.Cases.{split}
use Rattle.bits.proofs.Search.{lt_or_ge}
use Rattle.bits.proofs.Digits.{bit_zero, bit_suc, bit_packed, packed_bit, bit_past}

two_pos : 0 < 2
two_pos = zero-lt-suc 1

-- ---- and, or

min_and : (p q : ℕ) → p < 2 → q < 2 → eqb (min p q) 1 ≡ eqb p 1 && eqb q 1
min_and zero zero h l = refl
min_and zero (suc zero) h l = refl
min_and zero (suc (suc q)) h l = absurd (omega arith)
min_and (suc zero) zero h l = refl
min_and (suc zero) (suc zero) h l = refl
min_and (suc zero) (suc (suc q)) h l = absurd (omega arith)
min_and (suc (suc p)) q h l = absurd (omega arith)

max_or : (p q : ℕ) → p < 2 → q < 2 → eqb (max p q) 1 ≡ eqb p 1 || eqb q 1
max_or zero zero h l = refl
max_or zero (suc zero) h l = refl
max_or zero (suc (suc q)) h l = absurd (omega arith)
max_or (suc zero) zero h l = refl
max_or (suc zero) (suc zero) h l = refl
max_or (suc zero) (suc (suc q)) h l = absurd (omega arith)
max_or (suc (suc p)) q h l = absurd (omega arith)

and_odd : (u v : ℕ) → bit_and u v % 2 ≡ min (u % 2) (v % 2)
and_odd u v = omega (arith, and_step u v)

or_odd : (u v : ℕ) → bit_or u v % 2 ≡ max (u % 2) (v % 2)
or_odd u v = omega (arith, or_step u v)

pub bit_and_lem : (x y k : ℕ) → bit (bit_and x y) k ≡ bit x k && bit y k
bit_and_lem x y k =
    ap (λ (z : ℕ). eqb (z % 2) 1) (and_shr x y k) ∙ ap (λ (z : ℕ). eqb z 1) (and_odd (x / 2 ^ k) (y / 2 ^ k))
    ∙ min_and (x / 2 ^ k % 2) (y / 2 ^ k % 2) (mod-lt (x / 2 ^ k) two_pos) (mod-lt (y / 2 ^ k) two_pos)

pub bit_or_lem : (x y k : ℕ) → bit (bit_or x y) k ≡ bit x k || bit y k
bit_or_lem x y k =
    ap (λ (z : ℕ). eqb (z % 2) 1) (or_shr x y k) ∙ ap (λ (z : ℕ). eqb z 1) (or_odd (x / 2 ^ k) (y / 2 ^ k))
    ∙ max_or (x / 2 ^ k % 2) (y / 2 ^ k % 2) (mod-lt (x / 2 ^ k) two_pos) (mod-lt (y / 2 ^ k) two_pos)

-- ---- shifts and low digits

pub bit_shr : (x n k : ℕ) → bit (x / 2 ^ n) k ≡ bit x (n + k)
bit_shr x n k = ap (λ (z : ℕ). eqb (z % 2) 1) (shr-shr x n k)

pub bit_shl : (x n k : ℕ) → bit (x * 2 ^ n) k ≡ leb n k && bit x (k - n)
bit_shl x zero k =
    let i : k ≡ k - 0 = omega arith in
    ap (λ (z : ℕ). bit z k) (mul-one x) ∙ ap (bit x) i ∙ simp (le-leb 0 k (omega arith))
bit_shl x (suc n) zero =
    bit_zero (x * 2 ^ suc n) ∙ ap (λ (z : ℕ). eqb z 1) (shifted_even x n) ∙ simp (leb-suc-zero n)
bit_shl x (suc n) (suc k) =
    let i : k - n ≡ suc k - suc n = omega arith in
    bit_suc (x * 2 ^ suc n) k ∙ ap (λ (z : ℕ). bit z k) (shifted_half x n) ∙ bit_shl x n k ∙ ap₂ ◌&&◌ (sym (leb-suc-suc n k)) (ap (bit x) i)

over_one : (x : ℕ) → x / 1 ≡ x
over_one x = omega arith

low_eq : (x w : ℕ) → packed w 0 (bit x) ≡ x % 2 ^ w
low_eq x w = packed_bit w 0 x ∙ ap (λ (z : ℕ). z % 2 ^ w) (over_one x)

pub bit_low : (x w k : ℕ) → bit (x % 2 ^ w) k ≡ ltb k w && bit x k
bit_low x w k = ⊎_elim
    (λ h. ap (λ (z : ℕ). bit z k) (sym (low_eq x w)) ∙ bit_packed w 0 (bit x) k h ∙ simp (zero-add, lt-ltb k w h))
    (λ h. bit_past (x % 2 ^ w) w k (mod-lt x (pow_pos w)) h ∙ simp (le-ltb k w h)) (lt_or_ge k w)

pub bit_64 : (x k : ℕ) → k < 64 → bit (x % 2 ^ 64) k ≡ bit x k
bit_64 x k h = bit_low x 64 k ∙ simp (lt-ltb k 64 h)

pub shl_one : (n : ℕ) → n < 64 → 1 * 2 ^ n % 2 ^ 64 ≡ 2 ^ n
shl_one n h = shl_exact 1 n 64 (omega arith) (omega arith) ∙ one-mul (2 ^ n)

-- ---- the opposite of each of w bits

odd_flip : (x y : ℕ) → (x + y) % 2 ≡ 1 → eqb (x % 2) 1 ≡ not (eqb (y % 2) 1)
odd_flip x y e = split (eqb (y % 2) 1)
    (λ t. ne_eqb (x % 2) 1 (λ o. omega (arith, eqb-true (y % 2) 1 t)) ∙ rw t)
    (λ t. eq-eqb (x % 2) 1 (let n : y % 2 ≡ 1 → ⊥ = eqb-false (y % 2) 1 t in omega arith) ∙ rw t)

pub bit_not : (w m k : ℕ) → m < 2 ^ w → k < w → bit (2 ^ w - 1 - m) k ≡ not (bit m k)
bit_not zero m k h l = absurd (omega arith)
bit_not (suc w) m zero h l =
    let p : 2 ^ suc w ≡ 2 ^ w * 2 = pow-suc 2 w in
    bit_zero (2 ^ suc w - 1 - m) ∙ odd_flip (2 ^ suc w - 1 - m) m (omega (arith, p)) ∙ ap not (sym (bit_zero m))
bit_not (suc w) m (suc k) h l =
    let p : 2 ^ suc w ≡ 2 ^ w * 2 = pow-suc 2 w in
    let e : (2 ^ suc w - 1 - m) / 2 ≡ 2 ^ w - 1 - m / 2 = omega (arith, p) in
    bit_suc (2 ^ suc w - 1 - m) k ∙ ap (λ (x : ℕ). bit x k) e ∙ bit_not w (m / 2) k (omega (arith, p)) (omega arith) ∙ ap not (sym (bit_suc m k))
