-- States that move on: bits may be added to the state first and it moved on then; what is added moves on by itself; a state is in range.
-- Assumes nothing.
use mathlib.Core.Path.{◌≡◌, refl, sym, ap, ap₂, ◌∙◌}
use mathlib.Core.List.{List, [], ◌∷◌, ◌++◌}
use Prim.Native.Nat.{ℕ, zero, suc, ◌+◌, ◌*◌, ◌/◌, ◌%◌, ◌^◌, ◌<◌}
use native.Mathlib.Omega.{arith}
use native.Mathlib.Nat.{mod-lt, zero-lt-suc, suc-add, zero-add}
use lib.Bits.{bit_xor, xor_zero_r, xor_lt, xor_shifted, shifted_half, shifted_even}
use lib.ListN.{length, get_or}
use lib.Pow.{pow_pos, split}
use Rattle.checksum.specs.Checksum.{polynomial, bit_step, over_bits}
use Rattle.checksum.specs.Slices.{zeros_on}
use Rattle.checksum.proofs.Xor.{xor_half, xor_low, xor_swap, xor_four}

-- ---- bits as a number

unfoldable pub value_of : List ℕ → ℕ
value_of [] = 0
value_of (b ∷ bs) = b + 2 * value_of bs

-- each number of a list is a bit
abbrev pub AreBits : List ℕ → Type 0
AreBits l = (i : ℕ) → get_or l i 0 < 2

-- a bit that comes in may be added to the state first
step_in : (s b v : ℕ) → b < 2 → bit_step (bit_xor s (b + 2 * v)) 0 ≡ bit_xor (bit_step s b) v
step_in s b v h =
    let z = bit_xor s (b + 2 * v) in
    let e : (b + 2 * v) / 2 ≡ v = omega arith in
    let half : z / 2 ≡ bit_xor (s / 2) v = xor_half s (b + 2 * v) ∙ ap (bit_xor (s / 2)) e in
    let low : (z + 0) % 2 ≡ (s + b) % 2 = omega (arith, xor_low s (b + 2 * v)) in
    ap₂ (λ (x y : ℕ). bit_xor x (y * polynomial)) half low ∙ xor_swap (s / 2) v ((s + b) % 2 * polynomial)

-- and so may several
pub moved_bits : (s : ℕ) (bs : List ℕ) → AreBits bs → over_bits s bs ≡ zeros_on (length bs) (bit_xor s (value_of bs))
unfolding over_bits zeros_on value_of
moved_bits s [] h = sym (xor_zero_r s)
moved_bits s (b ∷ bs) h =
    moved_bits (bit_step s b) bs (λ i. h (suc i)) ∙ ap (zeros_on (length bs)) (sym (step_in s b (value_of bs) (h 0)))

-- ---- what is added moves on by itself

twice_over : (p q : ℕ) → p < 2 → q < 2 → (p + q) % 2 * polynomial ≡ bit_xor (p * polynomial) (q * polynomial)
twice_over zero zero h l = refl
twice_over zero (suc zero) h l = refl
twice_over zero (suc (suc q)) h l = absurd (omega arith)
twice_over (suc zero) zero h l = refl
twice_over (suc zero) (suc zero) h l = refl
twice_over (suc zero) (suc (suc q)) h l = absurd (omega arith)
twice_over (suc (suc p)) q h l = absurd (omega arith)

step_sum : (a b : ℕ) → bit_step (bit_xor a b) 0 ≡ bit_xor (bit_step a 0) (bit_step b 0)
step_sum a b =
    let low : (bit_xor a b + 0) % 2 ≡ ((a + 0) % 2 + (b + 0) % 2) % 2 = omega (arith, xor_low a b) in
    ap₂ (λ (x y : ℕ). bit_xor x (y * polynomial)) (xor_half a b) low
    ∙ ap (bit_xor (bit_xor (a / 2) (b / 2))) (twice_over ((a + 0) % 2) ((b + 0) % 2) (mod-lt (a + 0) (zero-lt-suc 1)) (mod-lt (b + 0) (zero-lt-suc 1)))
    ∙ xor_four (a / 2) (b / 2) ((a + 0) % 2 * polynomial) ((b + 0) % 2 * polynomial)

pub moved_sum : (n a b : ℕ) → zeros_on n (bit_xor a b) ≡ bit_xor (zeros_on n a) (zeros_on n b)
unfolding zeros_on
moved_sum zero a b = refl
moved_sum (suc n) a b = ap (zeros_on n) (step_sum a b) ∙ moved_sum n (bit_step a 0) (bit_step b 0)

pub moved_add : (m n s : ℕ) → zeros_on (m + n) s ≡ zeros_on n (zeros_on m s)
unfolding zeros_on
moved_add zero n s = ap (λ (x : ℕ). zeros_on x s) (zero-add n)
moved_add (suc m) n s = ap (λ (x : ℕ). zeros_on x s) (suc-add m n) ∙ moved_add m n (bit_step s 0)

-- zeros fall out
moved_high : (n x : ℕ) → zeros_on n (x * 2 ^ n) ≡ x
unfolding zeros_on
moved_high zero x = omega arith
moved_high (suc n) x =
    let low : (x * 2 ^ suc n + 0) % 2 ≡ 0 = omega (arith, shifted_even x n) in
    ap (zeros_on n) (ap₂ (λ (u v : ℕ). bit_xor u (v * polynomial)) (shifted_half x n) low ∙ xor_zero_r (x * 2 ^ n)) ∙ moved_high n x

pub moved_split : (n z : ℕ) → zeros_on n z ≡ bit_xor (z / 2 ^ n) (zeros_on n (z % 2 ^ n))
moved_split n z =
    ap (zeros_on n) (sym (xor_shifted (z / 2 ^ n) n (z % 2 ^ n) (mod-lt z (pow_pos n)) ∙ split z n))
    ∙ moved_sum n (z / 2 ^ n * 2 ^ n) (z % 2 ^ n) ∙ ap (λ (x : ℕ). bit_xor x (zeros_on n (z % 2 ^ n))) (moved_high n (z / 2 ^ n))

-- ---- range

pub step_lt : (s b : ℕ) → s < 2 ^ 32 → bit_step s b < 2 ^ 32
step_lt s b h = xor_lt 32 (s / 2) ((s + b) % 2 * polynomial) (omega arith) (omega arith)

pub moved_lt : (n s : ℕ) → s < 2 ^ 32 → zeros_on n s < 2 ^ 32
unfolding zeros_on
moved_lt zero s h = h
moved_lt (suc n) s h = moved_lt n (bit_step s 0) (step_lt s 0 h)

pub over_lt : (s : ℕ) (bs : List ℕ) → s < 2 ^ 32 → over_bits s bs < 2 ^ 32
unfolding over_bits
over_lt s [] h = h
over_lt s (b ∷ bs) h = over_lt (bit_step s b) bs (step_lt s b h)

-- ---- one run of bits behind another, and the bits of bytes

pub over_append : (s : ℕ) (a b : List ℕ) → over_bits s (a ++ b) ≡ over_bits (over_bits s a) b
unfolding over_bits
over_append s [] b = refl
over_append s (x ∷ a) b = over_append (bit_step s x) a b
