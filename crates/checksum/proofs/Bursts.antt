-- Bursts are found. Moving a state on loses nothing, so equal states at the end were equal before; and up to 32 bits that come in are added
-- to the state, so equal states behind them mean equal bits. Assumes nothing.
use mathlib.Core.Path.{◌≡◌, refl, sym, ap, ap₂, ◌∙◌}
use mathlib.Core.Logic.{◌⊎◌, inl, inr, ⊎_elim}
use mathlib.Core.List.{List, [], ◌∷◌, ◌++◌}
use Prim.Native.Nat.{ℕ, zero, suc, ◌+◌, ◌-◌, ◌*◌, ◌/◌, ◌%◌, ◌^◌, ◌≤◌, ◌<◌, min}
use native.Mathlib.Omega.{arith}
use native.Mathlib.Nat.{mod-lt, zero-lt-suc, pow-suc, lt_of_lt_of_le, div-eq_of_lt}
use lib.Bits.{bit_xor, xor_comm, xor_lt, xor_shr, xor_self}
use lib.ListN.{length, get_or, take, drop, length-append, length-take, length-drop, take-append-drop, get_or-append, get_or-eq_default}
use lib.Pow.{pow_mono, pow_pos, shr-shr}
use lib.Seq.{get_or-take, get_or-drop, get_or-append-add, ext_get_or, take_at}
use Rattle.bits.proofs.Search.{lt_or_ge}
use Rattle.codec.specs.Bytes.{little_endian, Bytes}
use Rattle.codec.proofs.Numbers.{number_back}
use Rattle.checksum.specs.Checksum.{polynomial, bit_step, over_bits, low_bits, bits_of, inverted, crc_over}
use Rattle.checksum.specs.Slices.{zeros_on}
use Rattle.checksum.specs.Bursts.{bit_at, Burst, BurstFound, checked, CheckedBurstFound, StartFound, NoLonger}
use Rattle.checksum.proofs.Xor.{xor_assoc, xor_cancel}
use Rattle.checksum.proofs.Moves.{AreBits, value_of, moved_bits, step_lt, over_append, over_lt}
use Rattle.checksum.proofs.Slices.{bits_append, are_bits, bits_long, low_long, value_byte, after_four}
use Rattle.checksum.proofs.Promises.{inverted_lt, crc_lt}

-- ---- moving on loses nothing

-- the highest bit of the next state says whether the polynomial was added
top : (a d : ℕ) → a < 2 ^ 31 → d < 2 → bit_xor a (d * polynomial) / 2 ^ 31 ≡ d
top a d h l =
    let low : a / 2 ^ 31 ≡ 0 = omega arith in
    let high : d * polynomial / 2 ^ 31 ≡ d = omega arith in
    xor_shr a (d * polynomial) 31 ∙ ap₂ bit_xor low high

step_back : (s t b : ℕ) → s < 2 ^ 32 → t < 2 ^ 32 → bit_step s b ≡ bit_step t b → s ≡ t
step_back s t b hs ht e =
    let low : (s + b) % 2 ≡ (t + b) % 2 =
    sym (top (s / 2) ((s + b) % 2) (omega arith) (mod-lt (s + b) (zero-lt-suc 1))) ∙ ap (λ (x : ℕ). x / 2 ^ 31) e
    ∙ top (t / 2) ((t + b) % 2) (omega arith) (mod-lt (t + b) (zero-lt-suc 1)) in
    let high : s / 2 ≡ t / 2 =
    xor_cancel (s / 2) (t / 2) ((s + b) % 2 * polynomial) (e ∙ ap (λ (x : ℕ). bit_xor (t / 2) (x * polynomial)) (sym low)) in
    whole s t b low high
  where
    whole : (s t b : ℕ) → (s + b) % 2 ≡ (t + b) % 2 → s / 2 ≡ t / 2 → s ≡ t
    whole s t b low high = omega arith

pub over_back : (s t : ℕ) (bs : List ℕ) → s < 2 ^ 32 → t < 2 ^ 32 → over_bits s bs ≡ over_bits t bs → s ≡ t
unfolding over_bits
over_back s t [] hs ht e = e
over_back s t (b ∷ bs) hs ht e =
    step_back s t b hs ht (over_back (bit_step s b) (bit_step t b) bs (step_lt s b hs) (step_lt t b ht) e)

moved_back : (n s t : ℕ) → s < 2 ^ 32 → t < 2 ^ 32 → zeros_on n s ≡ zeros_on n t → s ≡ t
unfolding zeros_on
moved_back zero s t hs ht e = e
moved_back (suc n) s t hs ht e = step_back s t 0 hs ht (moved_back n (bit_step s 0) (bit_step t 0) (step_lt s 0 hs) (step_lt t 0 ht) e)

-- ---- a window of 32 bits

value_lt : (l : List ℕ) → AreBits l → value_of l < 2 ^ length l
unfolding value_of
value_lt [] h = omega arith
value_lt (b ∷ l) h = omega (arith, h 0, value_lt l (λ i. h (suc i)), pow-suc 2 (length l))

value_back : (a b : List ℕ) → AreBits a → AreBits b → length a ≡ length b → value_of a ≡ value_of b → a ≡ b
unfolding value_of
value_back [] [] p q l e = refl
value_back [] (y ∷ b) p q l e = absurd (omega arith)
value_back (x ∷ a) [] p q l e = absurd (omega arith)
value_back (x ∷ a) (y ∷ b) p q l e =
    ap₂ ◌∷◌ (omega (arith, p 0, q 0)) (value_back a b (λ i. p (suc i)) (λ i. q (suc i)) (omega arith) (omega (arith, p 0, q 0)))

window : (s : ℕ) (a b : List ℕ) → s < 2 ^ 32 → AreBits a → AreBits b → length a ≡ length b → length a ≤ 32 → over_bits s a ≡ over_bits s b → a ≡ b
window s a b h p q l m e =
    let fits : value_of a < 2 ^ 32 = lt_of_lt_of_le (value_lt a p) (pow_mono m) in
    let fits' : value_of b < 2 ^ 32 = lt_of_lt_of_le (value_lt b q) (pow_mono {i = length b} {j = 32} (omega arith)) in
    let added : bit_xor s (value_of a) ≡ bit_xor s (value_of b) =
    moved_back (length a) (bit_xor s (value_of a)) (bit_xor s (value_of b)) (xor_lt 32 s (value_of a) h fits) (xor_lt 32 s (value_of b) h fits')
    (sym (moved_bits s a p) ∙ e ∙ moved_bits s b q ∙ ap (λ (n : ℕ). zeros_on n (bit_xor s (value_of b))) (sym l)) in
    value_back a b p q l (xor_cancel (value_of a) (value_of b) s (xor_comm (value_of a) s ∙ added ∙ xor_comm s (value_of b)))

-- ---- a window in a longer run of bits

bits_take : (n : ℕ) (l : List ℕ) → AreBits l → AreBits (take n l)
bits_take n l h i = ⊎_elim
    (λ (t : i < n). rw (get_or-take n l i 0 t) (h i))
    (λ (t : n ≤ i). rw (get_or-eq_default (take n l) 0 {n = i} (omega (arith, length-take n l))) (omega arith))
    (lt_or_ge i n)

bits_drop : (n : ℕ) (l : List ℕ) → AreBits l → AreBits (drop n l)
bits_drop n l h i = rw (get_or-drop n l i 0) (h (n + i))

pub bits_found : (s k : ℕ) (a b : List ℕ) → s < 2 ^ 32 → AreBits a → AreBits b → length a ≡ length b
    → ((i : ℕ) → (i < k) ⊎ (k + 32 ≤ i) → get_or a i 0 ≡ get_or b i 0) → over_bits s a ≡ over_bits s b → a ≡ b
bits_found s k a b h p q l same e =
    sym (take-append-drop k a) ∙ ap₂ ◌++◌ first (sym (take-append-drop 32 (drop k a)) ∙ ap₂ ◌++◌ middle last ∙ take-append-drop 32 (drop k b))
    ∙ take-append-drop k b
  where
    first : take k a ≡ take k b
    first = ext_get_or 0 (take k a) (take k b) (length-take k a ∙ ap (min k) l ∙ sym (length-take k b))
        (λ i t. let j : i < k = omega (arith, length-take k a) in get_or-take k a i 0 j ∙ same i (inl j) ∙ sym (get_or-take k b i 0 j))

    last : drop 32 (drop k a) ≡ drop 32 (drop k b)
    last = ext_get_or 0 (drop 32 (drop k a)) (drop 32 (drop k b))
        (omega (arith, length-drop 32 (drop k a), length-drop k a, length-drop 32 (drop k b), length-drop k b))
        (λ i t. at a i ∙ same (k + (32 + i)) (inr (omega arith)) ∙ sym (at b i))
      where
        at : (m : List ℕ) (i : ℕ) → get_or (drop 32 (drop k m)) i 0 ≡ get_or m (k + (32 + i)) 0
        at m i = get_or-drop 32 (drop k m) i 0 ∙ get_or-drop k m (32 + i) 0

    parts : (m : List ℕ) → over_bits s m ≡ over_bits (over_bits (over_bits s (take k m)) (take 32 (drop k m))) (drop 32 (drop k m))
    parts m =
        ap (over_bits s) (sym (take-append-drop k m)) ∙ over_append s (take k m) (drop k m)
        ∙ ap (over_bits (over_bits s (take k m))) (sym (take-append-drop 32 (drop k m)))
        ∙ over_append (over_bits s (take k m)) (take 32 (drop k m)) (drop 32 (drop k m))

    middle : take 32 (drop k a) ≡ take 32 (drop k b)
    middle =
        let w = take 32 (drop k a) in
        let v = take 32 (drop k b) in
        let start = over_bits s (take k a) in
        let below = over_lt s (take k a) h in
        let ends = sym (parts a) ∙ e ∙ parts b
        ∙ ap₂ (λ (p z : List ℕ). over_bits (over_bits (over_bits s p) v) z) (sym first) (sym last) in
        window start w v below (bits_take 32 (drop k a) (bits_drop k a p)) (bits_take 32 (drop k b) (bits_drop k b q))
        (omega (arith, length-take 32 (drop k a), length-take 32 (drop k b), length-drop k a, length-drop k b))
        (omega (arith, length-take 32 (drop k a)))
        (over_back (over_bits start w) (over_bits start v) (drop 32 (drop k a)) (over_lt start w below) (over_lt start v below) ends)

-- ---- the bits of bytes

low_at : (n x i : ℕ) → i < n → get_or (low_bits n x) i 0 ≡ x / 2 ^ i % 2
unfolding low_bits
low_at zero x i h = absurd (omega arith)
low_at (suc n) x zero h = omega arith
low_at (suc n) x (suc i) h =
    low_at n (x / 2) i (omega arith) ∙ ap (λ (y : ℕ). y % 2) (shr-shr x 1 i ∙ ap (λ (j : ℕ). x / 2 ^ j) (omega arith))

bits_at : (m : List ℕ) (i : ℕ) → get_or (bits_of m) i 0 ≡ bit_at m i
unfolding bits_of
bits_at [] i = sym (ap (λ (z : ℕ). z % 2) (div-eq_of_lt (pow_pos (i % 8))))
bits_at (x ∷ m) i = ⊎_elim
    (λ (h : i < 8).
    let q : 0 ≡ i / 8 = omega arith in
    let r : i ≡ i % 8 = omega arith in
    get_or-append (low_bits 8 x) (bits_of m) 0 i (omega (arith, low_long 8 x)) ∙ low_at 8 x i h
    ∙ ap₂ (λ (n j : ℕ). get_or (x ∷ m) n 0 / 2 ^ j % 2) q r)
    (λ (h : 8 ≤ i).
    let j : i ≡ length (low_bits 8 x) + (i - 8) = omega (arith, low_long 8 x) in
    let q : suc ((i - 8) / 8) ≡ i / 8 = omega arith in
    let r : (i - 8) % 8 ≡ i % 8 = omega arith in
    ap (λ (n : ℕ). get_or (low_bits 8 x ++ bits_of m) n 0) j ∙ get_or-append-add (low_bits 8 x) (bits_of m) (i - 8) 0 ∙ bits_at m (i - 8)
    ∙ ap₂ (λ (n j : ℕ). get_or (x ∷ m) n 0 / 2 ^ j % 2) q r)
    (lt_or_ge i 8)

-- bytes that have the same bits are the same
bytes_back : (x y : List ℕ) → Bytes x → Bytes y → length x ≡ length y → value_of (bits_of x) ≡ value_of (bits_of y) → x ≡ y
unfolding bits_of
bytes_back [] [] p q l e = refl
bytes_back [] (b ∷ y) p q l e = absurd (omega arith)
bytes_back (a ∷ x) [] p q l e = absurd (omega arith)
bytes_back (a ∷ x) (b ∷ y) p q l e =
    let f : a + 256 * value_of (bits_of x) ≡ b + 256 * value_of (bits_of y) =
    sym (value_byte a (bits_of x) (p 0)) ∙ e ∙ value_byte b (bits_of y) (q 0) in
    let here = p 0 in
    let there = q 0 in
    ap₂ ◌∷◌ (omega arith) (bytes_back x y (λ i. p (suc i)) (λ i. q (suc i)) (omega arith) (omega arith))

-- ---- bursts

-- from the same state to the same state
same_end : (s k : ℕ) (x y : List ℕ) → s < 2 ^ 32 → Burst k x y → over_bits s (bits_of x) ≡ over_bits s (bits_of y) → x ≡ y
same_end s k x y h u e =
    let l : length (bits_of x) ≡ length (bits_of y) = omega (arith, bits_long x, bits_long y, u.long) in
    bytes_back x y u.bytes u.other_bytes u.long
    (ap value_of (bits_found s k (bits_of x) (bits_of y) h (are_bits x) (are_bits y) l (λ i o. bits_at x i ∙ u.agree i o ∙ sym (bits_at y i)) e))

pub burst_found : BurstFound
unfolding crc_over
burst_found c k x y h u e =
    let s = inverted c in
    same_end s k x y (inverted_lt c h) u (xor_cancel (over_bits s (bits_of x)) (over_bits s (bits_of y)) 0xFFFFFFFF e)

-- behind its own checksum every run of bytes leaves the same state
four_end : (s n : ℕ) → n < 2 ^ 32 → over_bits s (bits_of (little_endian 4 n)) ≡ zeros_on 32 (bit_xor s n)
four_end s n h =
    after_four s (n % 256) (n / 256 % 256) (n / 256 / 256 % 256) (n / 256 / 256 / 256 % 256)
    (mod-lt n low) (mod-lt (n / 256) low) (mod-lt (n / 256 / 256) low) (mod-lt (n / 256 / 256 / 256) low)
    ∙ ap (λ (v : ℕ). zeros_on 32 (bit_xor s v)) (number_back 4 n [] h)
  where
    low : 0 < 256
    low = zero-lt-suc 255

checked_end : (c : ℕ) (x : List ℕ) → c < 2 ^ 32 → over_bits (inverted c) (bits_of (checked c x)) ≡ zeros_on 32 0xFFFFFFFF
unfolding crc_over
checked_end c x h =
    let s = over_bits (inverted c) (bits_of x) in
    ap (over_bits (inverted c)) (bits_append x (little_endian 4 (crc_over c x)))
    ∙ over_append (inverted c) (bits_of x) (bits_of (little_endian 4 (crc_over c x)))
    ∙ four_end s (crc_over c x) (crc_lt c x h)
    ∙ ap (zeros_on 32) (sym (xor_assoc s s 0xFFFFFFFF) ∙ ap (λ (z : ℕ). bit_xor z 0xFFFFFFFF) (xor_self s))

pub checked_burst_found : CheckedBurstFound
checked_burst_found c k x y h u =
    let e = same_end (inverted c) k (checked c x) (checked c y) (inverted_lt c h) u (checked_end c x h ∙ sym (checked_end c y h)) in
    let l : length y ≡ length x = omega (arith, u.long, length-append x (little_endian 4 (crc_over c x)), length-append y (little_endian 4 (crc_over c y))) in
    sym (take_at x (little_endian 4 (crc_over c x)) (length x) refl) ∙ ap (take (length x)) e ∙ take_at y (little_endian 4 (crc_over c y)) (length x) l

pub start_found : StartFound
unfolding crc_over
start_found c d bytes hc hd e =
    let s = over_bits (inverted c) (bits_of bytes) in
    let t = over_bits (inverted d) (bits_of bytes) in
    xor_cancel c d 0xFFFFFFFF
    (over_back (inverted c) (inverted d) (bits_of bytes) (inverted_lt c hc) (inverted_lt d hd) (xor_cancel s t 0xFFFFFFFF e))

pub no_longer : NoLonger
unfolding crc_over over_bits bits_of low_bits
no_longer = refl
