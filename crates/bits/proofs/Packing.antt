-- A loop that builds a number from its top bit down: the invariant, where it starts, one turn, and what it says at the end.
-- Assumes nothing.
use mathlib.Core.Path.{◌≡◌, refl, sym, ap, ap₂, subst, ◌∙◌}
use mathlib.Core.Bool.{Bool, true, false}
use Prim.Native.Nat.{ℕ, zero, suc, ◌+◌, ◌-◌, ◌*◌, ◌/◌, ◌%◌, ◌^◌, ◌≤◌, ◌<◌}
use native.Mathlib.Nat.{lt_of_lt_of_le, lt_of_le_of_lt, mod-eq_of_lt, div-le_self, pow-suc, mul_assoc}
use native.Mathlib.Omega.{arith}
use mir.Val.{bool_byte}
use lib.Pow.{pow_mono, shr_lt}
use Rattle.bits.specs.Bits.{Bits, bit, digit, packed, image}
use Rattle.bits.proofs.Digits.{packed_lt, packed_ext, packed_bit}

pub packed_step : (w k : ℕ) (f : Bits) → 0 < k → k ≤ w → packed (w - (k - 1)) (k - 1) f ≡ packed (w - k) k f * 2 + digit (f (k - 1))
unfolding packed
packed_step w k f p h =
    let e : w - (k - 1) ≡ suc (w - k) = omega arith in
    let d : suc (k - 1) ≡ k = omega arith in
    ap (λ (n : ℕ). packed n (k - 1) f) e ∙ ap (λ (j : ℕ). packed (w - k) j f * 2 + digit (f (k - 1))) d

pub packed_part : (w k : ℕ) (f : Bits) → packed (w - k) k f < 2 ^ w
packed_part w k f = lt_of_lt_of_le (packed_lt (w - k) k f) (pow_mono (omega arith))

-- a run of digits in two parts
packed_append : (m n k : ℕ) (f : Bits) → packed (m + n) k f ≡ packed n (k + m) f * 2 ^ m + packed m k f
unfolding packed
packed_append zero n k f =
    let a : 0 + n ≡ n = omega arith in
    let b : k ≡ k + 0 = omega arith in
    let e : packed (0 + n) k f ≡ packed n (k + 0) f = ap₂ (λ (x y : ℕ). packed x y f) a b in
    omega arith
packed_append (suc m) n k f =
    let a : suc m + n ≡ suc (m + n) = omega arith in
    let b : suc k + m ≡ k + suc m = omega arith in
    let c : packed (suc m + n) k f ≡ packed (m + n) (suc k) f * 2 + digit (f k) = ap (λ (x : ℕ). packed x k f) a in
    let d : packed n (suc k + m) f ≡ packed n (k + suc m) f = ap (λ (x : ℕ). packed n x f) b in
    let p : packed n (k + suc m) f * 2 ^ suc m ≡ packed n (k + suc m) f * 2 ^ m * 2 = ap (λ (x : ℕ). packed n (k + suc m) f * x) (pow-suc 2 m) ∙ sym (mul_assoc (packed n (k + suc m) f) (2 ^ m) 2) in
    let q : packed n (suc k + m) f * 2 ^ m ≡ packed n (k + suc m) f * 2 ^ m = ap (λ (x : ℕ). x * 2 ^ m) d in
    omega (arith, packed_append m n (suc k) f)

-- what the machine makes of a bool
pub byte_digit : (b : Bool) → bool_byte b ≡ digit b
byte_digit true = refl
byte_digit false = refl

-- acc holds the bits of f from k on
pub record Packing (f : Bits) (k acc : ℕ) : Type 0 where
  pub low : k ≤ 64
  pub fits : acc < 2 ^ 64
  pub held : acc ≡ packed (64 - k) k f

pub packs : {f : Bits} {k acc : ℕ} {b : Bool} → Packing f k acc → 0 < k → b ≡ f (k - 1) → Packing f (k - 1) (acc * 2 + bool_byte b)
packs {f} {k} {acc} {b} inv p q =
    let i : acc * 2 + bool_byte b ≡ packed (64 - (k - 1)) (k - 1) f =
    ap₂ (λ (x y : ℕ). x * 2 + y) inv.held (byte_digit b ∙ ap digit q) ∙ sym (packed_step 64 k f p inv.low) in
    record { low = omega arith; fits = omega (arith, packed_part 64 (k - 1) f); held = i }

-- where only the bits from a to z of a number r are made anew, it starts from those above z, and ends with those below a
pub packing_above : {f : Bits} (r z : ℕ) → r < 2 ^ 64 → z ≤ 64 → ((j : ℕ) → z ≤ j → f j ≡ bit r j) → Packing f z (r / 2 ^ z)
packing_above {f} r z h l e =
    let w : 64 ≡ 64 - z + z = omega arith in
    let p : packed (64 - z) z f ≡ r / 2 ^ z = packed_ext (64 - z) z f (bit r) (λ j a b. e j a) ∙ packed_bit (64 - z) z r ∙ mod-eq_of_lt (shr_lt (64 - z) z (subst (λ (x : ℕ). r < 2 ^ x) w h)) in
    record { low = l; fits = lt_of_le_of_lt (div-le_self r (2 ^ z)) h; held = sym p }

pub packing_below : {f : Bits} {acc : ℕ} (r a : ℕ) → Packing f a acc → ((j : ℕ) → j < a → f j ≡ bit r j) → acc * 2 ^ a + r % 2 ^ a ≡ image f
packing_below {f} {acc} r a inv e =
    let l : a ≤ 64 = inv.low in
    let w : a + (64 - a) ≡ 64 = omega arith in
    let b : 0 + a ≡ a = omega arith in
    let o : r / 1 ≡ r = omega arith in
    ap₂ (λ (x y : ℕ). x * 2 ^ a + y)
    (inv.held ∙ ap (λ (x : ℕ). packed (64 - a) x f) (sym b))
    (ap (λ (x : ℕ). x % 2 ^ a) (sym o) ∙ sym (packed_bit a 0 r) ∙ packed_ext a 0 (bit r) f (λ j p q. sym (e j (omega arith))))
    ∙ sym (packed_append a (64 - a) 0 f) ∙ ap (λ (x : ℕ). packed x 0 f) w
