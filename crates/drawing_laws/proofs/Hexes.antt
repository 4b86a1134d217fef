-- An image in hex reads back, and so do two lines. Assumes nothing.
use mathlib.Core.Path.{◌≡◌, refl, sym, ap, ap₂, ◌∙◌, subst}
use mathlib.Core.Bool.{Bool, true, false, cond, not, ◌&&◌}
use mathlib.Core.List.{List, [], ◌∷◌, ◌++◌}
use Prim.Native.Nat.{ℕ, zero, suc, ◌+◌, ◌*◌, ◌-◌, ◌/◌, ◌%◌, ◌≤◌, ◌<◌, ◌^◌}
use native.Mathlib.Omega.{arith}
use native.Mathlib.Nat.{pow-suc, one-le-pow, mod-eq_of_lt}
use lib.Arith.{mod-mul}
use lib.Dec.{T, eqb, ltb}
use lib.ListN.{length, get_or, length-append, get_or-append}
use lib.Seq.{get_or-append-add}
use borrow.Author.Tests.{eqb-true, ltb-true, ltb-false, lt-ltb, not-true}
use Rattle.bits.specs.Search.{every}
use Rattle.bits.proofs.Cases.{split, and_l, and_r, T→true}
use Rattle.bits.proofs.Search as tests
use Rattle.bits.proofs.Search.{every_is}
use Rattle.drawing.specs.Hex.{digit_of, all_digits, is_blank, unblanked, hex_number, hex_in, hex_digit, hex_byte, hex_line}
use Rattle.std.specs.declared.option.Option.TheVariants.{Some}
use Rattle.drawing.specs.declared.Hex.TheVariants.{Image, Asked}
use Rattle.drawing_laws.specs.Promises.{HexReadsBack, AskedReadsBack}

-- ---- digits

-- a digit is no blank, and has its value
abbrev digit_good : ℕ → Bool
digit_good v = not (is_blank (hex_digit v)) && eqb (digit_of (hex_digit v)) v

all_good : T (every 16 digit_good)
unfolding every
all_good = tt

module _ (v : ℕ) (h : v < 16) where
  good : T (digit_good v)
  good = tests.each 16 digit_good all_good v h

  unblank : is_blank (hex_digit v) ≡ false
  unblank = not-true (is_blank (hex_digit v)) (T→true (not (is_blank (hex_digit v))) (and_l (not (is_blank (hex_digit v))) (eqb (digit_of (hex_digit v)) v) good))

  valued : digit_of (hex_digit v) ≡ v
  valued = eqb-true (digit_of (hex_digit v)) v (T→true (eqb (digit_of (hex_digit v)) v) (and_r (not (is_blank (hex_digit v))) (eqb (digit_of (hex_digit v)) v) good))

-- ---- the digits of a line

unfoldable digits : ℕ → ℕ → List ℕ
digits zero r = []
digits (suc n) r = hex_byte (r % 256) ++ digits n (r / 256)

between : (n : ℕ) → is_blank (cond (eqb n 0) 10 32) ≡ true
between n = split (eqb n 0) (λ e. rw e refl) (λ e. rw e refl)

unblanked_line : (n r : ℕ) → unblanked (hex_line n r) ≡ digits n r
unfolding unblanked hex_line digits
unblanked_line zero r = refl
unblanked_line (suc n) r =
    rw (unblank (r % 256 / 16) (omega arith), unblank (r % 256 % 16) (omega arith), between n, unblanked_line n (r / 256)) refl

digits_length : (n r : ℕ) → length (digits n r) ≡ 2 * n
unfolding digits
digits_length zero r = refl
digits_length (suc n) r = omega (arith, digits_length n (r / 256))

digit_small : (n r j : ℕ) → j < 2 * n → digit_of (get_or (digits n r) j 0) < 16
unfolding digits
digit_small zero r j h = absurd (omega arith)
digit_small (suc n) r zero h = omega (arith, valued (r % 256 / 16) (omega arith))
digit_small (suc n) r (suc zero) h = omega (arith, valued (r % 256 % 16) (omega arith))
digit_small (suc n) r (suc (suc j)) h = digit_small n (r / 256) j (omega arith)

-- ---- the number that they say

-- from the third digit on
number_in_on : (n k a b : ℕ) (s : List ℕ) → hex_number n (suc k) (a ∷ b ∷ s) ≡ hex_number n k s
unfolding hex_number
number_in_on zero k a b s = refl
number_in_on (suc n) k a b s =
    let e : 2 * suc k ≡ suc (suc (2 * k)) = omega arith in
    let d : 2 * suc k + 1 ≡ suc (suc (2 * k + 1)) = omega arith in
    ap₂ (λ (x y : ℕ). x + 256 * y)
    (ap₂ (λ (i j : ℕ). digit_of (get_or (a ∷ b ∷ s) i 0) * 16 + digit_of (get_or (a ∷ b ∷ s) j 0)) e d)
    (number_in_on n (suc k) a b s)

number_back : (n r : ℕ) → hex_number n 0 (digits n r) ≡ r % 256 ^ n
unfolding hex_number digits
number_back zero r = omega arith
number_back (suc n) r =
    ap₂ (λ (x y : ℕ). x + 256 * y)
    (ap₂ (λ (i j : ℕ). i * 16 + j) (valued (r % 256 / 16) (omega arith)) (valued (r % 256 % 16) (omega arith)))
    (number_in_on n 0 (hex_digit (r % 256 / 16)) (hex_digit (r % 256 % 16)) (digits n (r / 256)) ∙ number_back n (r / 256))
    ∙ joined (r / 256 % 256 ^ n) (r % 256)
    ∙ sym (mod-mul r (one-le-pow n 256 (omega arith)) (omega arith))
    ∙ ap (λ (m : ℕ). r % m) (sym (pow-suc 256 n))
  where
    joined : (x y : ℕ) → y / 16 * 16 + y % 16 + 256 * x ≡ x * 256 + y
    joined x y = omega arith

-- ---- two lines

unblanked_append : (s t : List ℕ) → unblanked (s ++ t) ≡ unblanked s ++ unblanked t
unfolding unblanked
unblanked_append [] t = refl
unblanked_append (b ∷ s) t = split (is_blank b)
    (λ e. rw e (unblanked_append s t))
    (λ e. rw e (ap {B = List ℕ} (λ x. b ∷ x) (unblanked_append s t)))

-- the number of the first digits, and of those behind them
number_first : (n k : ℕ) (s t : List ℕ) → 2 * (n + k) ≤ length s → hex_number n k (s ++ t) ≡ hex_number n k s
unfolding hex_number
number_first zero k s t h = refl
number_first (suc n) k s t h =
    ap₂ (λ (x y : ℕ). x + 256 * y)
    (ap₂ (λ (x y : ℕ). digit_of x * 16 + digit_of y) (get_or-append s t 0 (2 * k) (omega arith)) (get_or-append s t 0 (2 * k + 1) (omega arith)))
    (number_first n (suc k) s t (omega arith))

number_behind : (n k m : ℕ) (s t : List ℕ) → length s ≡ 2 * m → hex_number n (m + k) (s ++ t) ≡ hex_number n k t
unfolding hex_number
number_behind zero k m s t e = refl
number_behind (suc n) k m s t e =
    let a : 2 * (m + k) ≡ length s + 2 * k = omega arith in
    let b : 2 * (m + k) + 1 ≡ length s + (2 * k + 1) = omega arith in
    let c : suc (m + k) ≡ m + suc k = omega arith in
    ap₂ (λ (x y : ℕ). x + 256 * y)
    (ap₂ (λ (x y : ℕ). digit_of x * 16 + digit_of y)
    (ap (λ (i : ℕ). get_or (s ++ t) i 0) a ∙ get_or-append-add s t (2 * k) 0)
    (ap (λ (i : ℕ). get_or (s ++ t) i 0) b ∙ get_or-append-add s t (2 * k + 1) 0))
    (ap (λ (i : ℕ). hex_number n i (s ++ t)) c ∙ number_behind n (suc k) m s t e)

-- all of them are digits
append_small : (s t : List ℕ) (j : ℕ) → ((i : ℕ) → i < length s → digit_of (get_or s i 0) < 16) → ((i : ℕ) → i < length t → digit_of (get_or t i 0) < 16)
    → j < length s + length t → digit_of (get_or (s ++ t) j 0) < 16
append_small s t j p q h = split (ltb j (length s))
    (λ e.
    let l = ltb-true j (length s) e in
    subst (λ (b : ℕ). digit_of b < 16) (sym (get_or-append s t 0 j l)) (p j l))
    (λ e.
    let l = ltb-false j (length s) e in
    let z : j ≡ length s + (j - length s) = omega arith in
    subst (λ (b : ℕ). digit_of b < 16) (sym (ap (λ (i : ℕ). get_or (s ++ t) i 0) z ∙ get_or-append-add s t (j - length s) 0)) (q (j - length s) (omega arith)))

-- ---- what they say

few : (d : List ℕ) (n : ℕ) → ((j : ℕ) → j < n → digit_of (get_or d j 0) < 16) → all_digits n d ≡ true
few d n h = every_is n (λ j. ltb (digit_of (get_or d j 0)) 16) (λ j l. lt-ltb (digit_of (get_or d j 0)) 16 (h j l))

pub hex_reads_back : HexReadsBack
unfolding hex_in
hex_reads_back r h =
    let d = digits 8 r in
    let u = unblanked_line 8 r in
    let n : length d ≡ 16 = digits_length 8 r in
    let f : all_digits 16 d ≡ true = few d 16 (λ j l. digit_small 8 r j (omega arith)) in
    let z : hex_number 8 0 d ≡ r = number_back 8 r ∙ mod-eq_of_lt h in
    rw (u, n, f) (ap (λ (x : ℕ). Some (Image x)) z)

pub asked_reads_back : AskedReadsBack
unfolding hex_in
asked_reads_back r a h k =
    let c = digits 8 r in
    let d = digits 8 a in
    let m : length c ≡ 16 = digits_length 8 r in
    let n : length d ≡ 16 = digits_length 8 a in
    let u : unblanked (hex_line 8 r ++ hex_line 8 a) ≡ c ++ d = unblanked_append (hex_line 8 r) (hex_line 8 a) ∙ ap₂ (λ (x y : List ℕ). x ++ y) (unblanked_line 8 r) (unblanked_line 8 a) in
    let v : length (c ++ d) ≡ 32 = length-append c d ∙ omega arith in
    let f : all_digits 32 (c ++ d) ≡ true = few (c ++ d) 32 (λ j l. append_small c d j (λ i p. digit_small 8 r i (omega arith)) (λ i p. digit_small 8 a i (omega arith)) (omega arith)) in
    let x : hex_number 8 0 (c ++ d) ≡ r = number_first 8 0 c d (omega arith) ∙ number_back 8 r ∙ mod-eq_of_lt h in
    let y : hex_number 8 8 (c ++ d) ≡ a = number_behind 8 0 8 c d m ∙ number_back 8 a ∙ mod-eq_of_lt k in
    rw (u, v, f) (ap₂ (λ (b c : ℕ). Some (Asked b c)) x y)
