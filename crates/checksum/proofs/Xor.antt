-- Addition without carries: its digits, and that order and brackets don't matter. Assumes nothing.
use mathlib.Core.Path.{◌≡◌, refl, sym, ap, ap₂, ◌∙◌}
use Prim.Native.Nat.{ℕ, zero, suc, ◌+◌, ◌*◌, ◌/◌, ◌%◌, ◌<◌}
use native.Mathlib.Omega.{arith}
use native.Mathlib.Nat.{mod-lt, zero-lt-suc, add_assoc}
use lib.Arith.{bin_ind}
use lib.Bits.{bit_xor, differ, xor_step, xor_comm, xor_self, xor_zero_r}

differ_sum : (p q : ℕ) → p < 2 → q < 2 → differ p q ≡ (p + q) % 2
differ_sum zero zero h l = refl
differ_sum zero (suc zero) h l = refl
differ_sum zero (suc (suc q)) h l = absurd (omega arith)
differ_sum (suc zero) zero h l = refl
differ_sum (suc zero) (suc zero) h l = refl
differ_sum (suc zero) (suc (suc q)) h l = absurd (omega arith)
differ_sum (suc (suc p)) q h l = absurd (omega arith)

parts : (a b : ℕ) → bit_xor a b ≡ bit_xor (a / 2) (b / 2) * 2 + (a + b) % 2
parts a b =
    let e = differ_sum (a % 2) (b % 2) (mod-lt a (zero-lt-suc 1)) (mod-lt b (zero-lt-suc 1)) in
    omega (arith, xor_step a b)

pub xor_half : (a b : ℕ) → bit_xor a b / 2 ≡ bit_xor (a / 2) (b / 2)
xor_half a b = omega (arith, parts a b)

pub xor_low : (a b : ℕ) → bit_xor a b % 2 ≡ (a + b) % 2
xor_low a b = omega (arith, parts a b)

low_sum : (p q a b c : ℕ) → p % 2 ≡ (a + b) % 2 → q % 2 ≡ (b + c) % 2 → (p + c) % 2 ≡ (a + q) % 2
low_sum p q a b c d e =
    sym (first p c) ∙ ap (λ (x : ℕ). (x + c) % 2) d ∙ first (a + b) c ∙ ap (λ (x : ℕ). x % 2) (add_assoc a b c)
    ∙ sym (second a (b + c)) ∙ ap (λ (x : ℕ). (a + x) % 2) (sym e) ∙ second a q
  where
    first : (x y : ℕ) → (x % 2 + y) % 2 ≡ (x + y) % 2
    first x y = omega arith

    second : (x y : ℕ) → (x + y % 2) % 2 ≡ (x + y) % 2
    second x y = omega arith

pub xor_assoc : (a b c : ℕ) → bit_xor (bit_xor a b) c ≡ bit_xor a (bit_xor b c)
xor_assoc = bin_ind (λ (n : ℕ). (b c : ℕ) → bit_xor (bit_xor n b) c ≡ bit_xor n (bit_xor b c)) (λ b c. refl) (λ n ih b c.
    let left : bit_xor (bit_xor n b) c ≡ bit_xor (bit_xor (n / 2) (b / 2)) (c / 2) * 2 + (bit_xor n b + c) % 2 =
    parts (bit_xor n b) c ∙ ap (λ (x : ℕ). bit_xor x (c / 2) * 2 + (bit_xor n b + c) % 2) (xor_half n b) in
    let right : bit_xor n (bit_xor b c) ≡ bit_xor (n / 2) (bit_xor (b / 2) (c / 2)) * 2 + (n + bit_xor b c) % 2 =
    parts n (bit_xor b c) ∙ ap (λ (x : ℕ). bit_xor (n / 2) x * 2 + (n + bit_xor b c) % 2) (xor_half b c) in
    let low : (bit_xor n b + c) % 2 ≡ (n + bit_xor b c) % 2 = low_sum (bit_xor n b) (bit_xor b c) n b c (xor_low n b) (xor_low b c) in
    left ∙ ap₂ (λ (x y : ℕ). x * 2 + y) (ih (b / 2) (c / 2)) low ∙ sym right)

-- the second and the third change places
pub xor_swap : (a b c : ℕ) → bit_xor (bit_xor a b) c ≡ bit_xor (bit_xor a c) b
xor_swap a b c = xor_assoc a b c ∙ ap (bit_xor a) (xor_comm b c) ∙ sym (xor_assoc a c b)

-- the inner two of four do
pub xor_four : (a b c d : ℕ) → bit_xor (bit_xor a b) (bit_xor c d) ≡ bit_xor (bit_xor a c) (bit_xor b d)
xor_four a b c d =
    sym (xor_assoc (bit_xor a b) c d) ∙ ap (λ (x : ℕ). bit_xor x d) (xor_swap a b c) ∙ xor_assoc (bit_xor a c) b d

-- what is added twice is gone
pub xor_twice : (a b : ℕ) → bit_xor (bit_xor a b) b ≡ a
xor_twice a b = xor_assoc a b b ∙ ap (bit_xor a) (xor_self b) ∙ xor_zero_r a

pub xor_cancel : (a b c : ℕ) → bit_xor a c ≡ bit_xor b c → a ≡ b
xor_cancel a b c e = sym (xor_twice a c) ∙ ap (λ (x : ℕ). bit_xor x c) e ∙ xor_twice b c
