-- A number's text: what the kit's `decimal` writes is it, how long it is, and that it is no other number's. Assumes nothing.
use mathlib.Core.Path.{◌≡◌, refl, sym, ap, ap₂, ◌∙◌}
use mathlib.Core.List.{List, [], ◌∷◌, ◌++◌}
use Prim.Native.Nat.{ℕ, zero, suc, ◌+◌, ◌-◌, ◌*◌, ◌/◌, ◌%◌, ◌^◌, ◌≤◌, ◌<◌}
use native.Mathlib.Nat.{pow-suc, pow-le-pow_right}
use native.Mathlib.Omega.{arith}
use lib.Dec.{ltb}
use lib.ListN.{length, length-append}
use borrow.Author.Tests.{ltb-true, ltb-false, lt-ltb, le-ltb}
use Rattle.io.specs.Digits.{hex_digit_ascii, last_digits, IsDigitCount}
use Rattle.bits.proofs.Cases.{split}
use Rattle.codec.specs.Text.{last_digit, decimal_to, decimal}

-- a number below ten, and one above
below_ten : (f n : ℕ) → n < 10 → decimal_to (suc f) n ≡ last_digit n
unfolding decimal_to
below_ten f n l = simp (lt-ltb n 10 l)

from_ten : (f n : ℕ) → 10 ≤ n → decimal_to (suc f) n ≡ decimal_to f (n / 10) ++ last_digit n
unfolding decimal_to
from_ten f n l = simp (le-ltb n 10 l)

-- it is enough to look at as many digits as there may be
enough : (f g n : ℕ) → n < f → n < g → decimal_to f n ≡ decimal_to g n
enough zero g n a b = absurd (omega arith)
enough (suc f) zero n a b = absurd (omega arith)
enough (suc f) (suc g) n a b = split (ltb n 10)
    (λ t. let l = ltb-true n 10 t in below_ten f n l ∙ sym (below_ten g n l))
    (λ t. let l = ltb-false n 10 t in
    from_ten f n l ∙ ap (λ k. k ++ last_digit n) (enough f g (n / 10) (omega arith) (omega arith)) ∙ sym (from_ten g n l))

pub decimal_small : (n : ℕ) → n < 10 → decimal n ≡ last_digit n
decimal_small n l = below_ten n n l

pub decimal_more : (n : ℕ) → 10 ≤ n → decimal n ≡ decimal (n / 10) ++ last_digit n
decimal_more n l = from_ten n n l ∙ ap (λ k. k ++ last_digit n) (enough n (suc (n / 10)) (n / 10) (omega arith) (omega arith))

-- ---- what the kit writes

glyph_last : (n : ℕ) → hex_digit_ascii (n % 10) ∷ [] ≡ last_digit n
glyph_last n = rw (lt-ltb (n % 10) 10 (omega arith)) refl

digits_are : (k n : ℕ) → IsDigitCount 10 1 n k → last_digits 10 k n ≡ decimal n
digits_are zero n x = absurd (omega (arith, x.0))
digits_are (suc zero) n x = glyph_last n ∙ sym (decimal_small n x.1)
digits_are (suc (suc j)) n x =
    let high : 10 ^ suc (suc j) ≡ 10 ^ suc j * 10 = pow-suc 10 (suc j) in
    let mid : 10 ^ suc j ≡ 10 ^ j * 10 = pow-suc 10 j in
    let less : suc (suc j) - 1 ≡ suc j = omega arith in
    let least : suc j - 1 ≡ j = omega arith in
    let low : 10 ^ suc j ≤ n = rw less at (x.2 (omega arith)) in
    ap₂ ◌++◌ (digits_are (suc j) (n / 10) (omega arith, omega (arith, x.1), λ _. rw least (omega arith))) (glyph_last n)
    ∙ sym (decimal_more n (omega (arith, ten j)))
  where
    ten : (j : ℕ) → 10 ≤ 10 ^ suc j
    ten j = pow-le-pow_right {n = 10} (omega arith) {i = 1} {j = suc j} (omega arith)

pub decimal_is : (n k : ℕ) (s : List ℕ) → IsDigitCount 10 1 n k → s ≡ last_digits 10 k n → s ≡ decimal n
decimal_is n k s x e = e ∙ digits_are k n x

-- ---- how long it is

pub decimal_short : (k n : ℕ) → n < 10 ^ suc k → length (decimal n) ≤ suc k
decimal_short zero n b = rw (decimal_small n b) (omega arith)
decimal_short (suc k) n b = split (ltb n 10)
    (λ t. rw (decimal_small n (ltb-true n 10 t)) (omega arith))
    (λ t. rw (decimal_more n (ltb-false n 10 t), length-append) (omega (arith, decimal_short k (n / 10) (omega arith))))

-- ---- it is no other number's

-- the number that digits stand for, after those that came before
read : ℕ → List ℕ → ℕ
read n [] = n
read n (c ∷ cs) = read (n * 10 + (c - 48)) cs

read_last : (n : ℕ) (s : List ℕ) (c : ℕ) → read n (s ++ c ∷ []) ≡ read n s * 10 + (c - 48)
unfolding read
read_last n [] c = refl
read_last n (d ∷ s) c = read_last (n * 10 + (d - 48)) s c

reads : (f n : ℕ) → n < f → read 0 (decimal n) ≡ n
unfolding read
reads zero n l = absurd (omega arith)
reads (suc f) n l = split (ltb n 10)
    (λ t. let b = ltb-true n 10 t in ap (read 0) (decimal_small n b) ∙ omega arith)
    (λ t. let b = ltb-false n 10 t in
    ap (read 0) (decimal_more n b) ∙ read_last 0 (decimal (n / 10)) (48 + n % 10)
    ∙ ap (λ (m : ℕ). m * 10 + (48 + n % 10 - 48)) (reads f (n / 10) (omega arith)) ∙ omega arith)

pub decimal_once : (m n : ℕ) → decimal m ≡ decimal n → m ≡ n
decimal_once m n e = sym (reads (suc m) m (omega arith)) ∙ ap (read 0) e ∙ reads (suc n) n (omega arith)
