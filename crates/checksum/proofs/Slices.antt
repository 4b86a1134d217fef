-- The tables hold what they should, and by them a byte and four bytes move a state on as their bits do. Assumes nothing.
use mathlib.Core.Path.{◌≡◌, refl, sym, ap, ap₂, ◌∙◌}
use mathlib.Core.List.{List, [], ◌∷◌, ◌++◌, append-nil}
use Prim.Native.Nat.{ℕ, zero, suc, ◌+◌, ◌*◌, ◌/◌, ◌%◌, ◌^◌, ◌<◌}
use native.Mathlib.Omega.{arith}
use native.Mathlib.Nat.{mod-lt, zero-lt-suc}
use lib.Bits.{bit_xor, xor_lt}
use lib.ListN.{length, get_or, length-append}
use Rattle.codec.specs.Bytes.{from_little_endian, Bytes}
use Rattle.codec.proofs.Fours.{valued_length, valued_at}
use Rattle.checksum.specs.Checksum.{over_bits, low_bits, bits_of}
use Rattle.checksum.specs.Slices.{zeros_on, table_entry, slices, over_byte, over_four, over_bytes, over_fours}
use Rattle.checksum.proofs.Moves.{AreBits, value_of, moved_bits, moved_sum, moved_add, moved_split, over_append, over_lt}

-- ---- the tables

pub slices_long : length slices ≡ 1024
unfolding slices
slices_long = valued_length table_entry 0 1024

pub entries : (p : ℕ) → p < 1024 → get_or slices p 0 ≡ table_entry p
unfolding slices
entries p l = valued_at table_entry 0 1024 p l ∙ ap table_entry (omega arith)

-- entry i of table j
slice_at : (p j i : ℕ) → i < 256 → p ≡ 256 * j + i → p < 1024 → get_or slices p 0 ≡ zeros_on (8 * (j + 1)) i
slice_at p j i h e l =
    let q : p / 256 ≡ j = omega arith in
    let r : p % 256 ≡ i = omega arith in
    entries p l ∙ ap₂ (λ (x y : ℕ). zeros_on (8 * (x + 1)) y) q r

-- ---- a byte, four bytes

pub by_byte : (z : ℕ) → over_byte slices z ≡ zeros_on 8 z
by_byte z =
    ap (bit_xor (z / 256)) (slice_at (z % 256) 0 (z % 256) (mod-lt z (zero-lt-suc 255)) (omega arith) (omega arith)) ∙ sym (moved_split 8 z)

-- the lowest byte moves on by itself
lowest : (n z : ℕ) → zeros_on (8 + n) z ≡ bit_xor (zeros_on n (z / 256)) (zeros_on (8 + n) (z % 256))
lowest n z =
    moved_add 8 n z ∙ ap (zeros_on n) (moved_split 8 z) ∙ moved_sum n (z / 256) (zeros_on 8 (z % 256))
    ∙ ap (bit_xor (zeros_on n (z / 256))) (sym (moved_add 8 n (z % 256)))

pub by_four : (z : ℕ) → z < 2 ^ 32 → over_four slices z ≡ zeros_on 32 z
by_four z h =
    let b : z / 256 / 256 ≡ z / 65536 = omega arith in
    let c : z / 65536 / 256 ≡ z / 16777216 = omega arith in
    let third : zeros_on 24 (z / 256) ≡ bit_xor (zeros_on 16 (z / 65536)) (zeros_on 24 (z / 256 % 256)) =
    lowest 16 (z / 256) ∙ ap (λ (x : ℕ). bit_xor (zeros_on 16 x) (zeros_on 24 (z / 256 % 256))) b in
    let second : zeros_on 16 (z / 65536) ≡ bit_xor (zeros_on 8 (z / 16777216)) (zeros_on 16 (z / 65536 % 256)) =
    lowest 8 (z / 65536) ∙ ap (λ (x : ℕ). bit_xor (zeros_on 8 x) (zeros_on 16 (z / 65536 % 256))) c in
    let t0 = slice_at (z / 16777216) 0 (z / 16777216) (omega arith) (omega arith) (omega arith) in
    let t1 = slice_at (256 + z / 65536 % 256) 1 (z / 65536 % 256) (omega arith) (omega arith) (omega arith) in
    let t2 = slice_at (512 + z / 256 % 256) 2 (z / 256 % 256) (omega arith) (omega arith) (omega arith) in
    let t3 = slice_at (768 + z % 256) 3 (z % 256) (omega arith) (omega arith) (omega arith) in
    ap₂ bit_xor (ap₂ bit_xor (ap₂ bit_xor t0 t1 ∙ sym second) t2 ∙ sym third) t3 ∙ sym (lowest 24 z)

-- ---- bytes as bits

pub bits_append : (a b : List ℕ) → bits_of (a ++ b) ≡ bits_of a ++ bits_of b
unfolding bits_of
bits_append [] b = refl
bits_append (x ∷ a) b = ap (λ (l : List ℕ). low_bits 8 x ++ l) (bits_append a b) ∙ sym (mathlib.Core.List.append_assoc (low_bits 8 x) (bits_of a) (bits_of b))

pub low_long : (n x : ℕ) → length (low_bits n x) ≡ n
unfolding low_bits
low_long zero x = refl
low_long (suc n) x = ap suc (low_long n (x / 2))

-- the low bits of a number are bits, and so are those before bits
pub low_bits_lem : (n x : ℕ) (l : List ℕ) → AreBits l → AreBits (low_bits n x ++ l)
unfolding low_bits
low_bits_lem zero x l h i = h i
low_bits_lem (suc n) x l h zero = mod-lt x (zero-lt-suc 1)
low_bits_lem (suc n) x l h (suc i) = low_bits_lem n (x / 2) l h i

pub are_bits : (xs : List ℕ) → AreBits (bits_of xs)
unfolding bits_of
are_bits [] i = omega arith
are_bits (x ∷ xs) i = low_bits_lem 8 x (bits_of xs) (are_bits xs) i

pub bits_long : (xs : List ℕ) → length (bits_of xs) ≡ 8 * length xs
unfolding bits_of
bits_long [] = refl
bits_long (x ∷ xs) = length-append (low_bits 8 x) (bits_of xs) ∙ omega (arith, low_long 8 x, bits_long xs)

-- a byte and the bits behind it as a number; four bytes
pub value_byte : (x : ℕ) (l : List ℕ) → x < 256 → value_of (low_bits 8 x ++ l) ≡ x + 256 * value_of l
unfolding low_bits value_of
value_byte x l h = omega arith

value_four : (a b c d : ℕ) → a < 256 → b < 256 → c < 256 → d < 256
    → value_of (bits_of (a ∷ b ∷ c ∷ d ∷ [])) ≡ a + 256 * (b + 256 * (c + 256 * (d + 256 * 0)))
unfolding bits_of
value_four a b c d ha hb hc hd = rw (value_byte a _ ha, value_byte b _ hb, value_byte c _ hc, value_byte d _ hd) (ap (λ (x : ℕ). a + 256 * (b + 256 * (c + 256 * (d + 256 * x)))) nothing)
  where
    nothing : value_of [] ≡ 0
    nothing = unfold value_of in refl

-- a state after some bytes: their bits added to it, and moved on
pub after : (s : ℕ) (xs : List ℕ) → over_bits s (bits_of xs) ≡ zeros_on (8 * length xs) (bit_xor s (value_of (bits_of xs)))
after s xs = moved_bits s (bits_of xs) (are_bits xs) ∙ ap (λ (n : ℕ). zeros_on n (bit_xor s (value_of (bits_of xs)))) (bits_long xs)

pub after_byte : (s x : ℕ) → x < 256 → over_bits s (low_bits 8 x) ≡ zeros_on 8 (bit_xor s x)
after_byte s x h =
    ap (over_bits s) (sym (append-nil (low_bits 8 x))) ∙ moved_bits s (low_bits 8 x ++ []) (low_bits_lem 8 x [] (λ i. omega arith))
    ∙ ap₂ (λ (n v : ℕ). zeros_on n (bit_xor s v)) (length-append (low_bits 8 x) [] ∙ omega (arith, low_long 8 x)) (value_byte x [] h ∙ none)
  where
    none : x + 256 * value_of [] ≡ x
    none = unfold value_of in omega arith

pub after_four : (s a b c d : ℕ) → a < 256 → b < 256 → c < 256 → d < 256
    → over_bits s (bits_of (a ∷ b ∷ c ∷ d ∷ [])) ≡ zeros_on 32 (bit_xor s (from_little_endian 4 0 (a ∷ b ∷ c ∷ d ∷ [])))
after_four s a b c d ha hb hc hd =
    after s (a ∷ b ∷ c ∷ d ∷ []) ∙ ap (λ (v : ℕ). zeros_on 32 (bit_xor s v)) (value_four a b c d ha hb hc hd)

-- ---- bytes one by one, and four by four

pub by_bytes : (s : ℕ) (xs : List ℕ) → Bytes xs → over_bytes slices s xs ≡ over_bits s (bits_of xs)
unfolding over_bytes bits_of over_bits
by_bytes s [] h = refl
by_bytes s (x ∷ xs) h =
    ap (λ (r : ℕ). over_bytes slices r xs) (by_byte (bit_xor s x) ∙ sym (after_byte s x (h 0)))
    ∙ by_bytes (over_bits s (low_bits 8 x)) xs (λ i. h (suc i)) ∙ sym (over_append s (low_bits 8 x) (bits_of xs))

pub by_fours : (s : ℕ) (xs : List ℕ) → s < 2 ^ 32 → Bytes xs → over_fours slices s xs ≡ over_bits s (bits_of xs)
unfolding over_fours over_bytes
by_fours s [] l h = by_bytes s [] h
by_fours s (a ∷ []) l h = by_bytes s (a ∷ []) h
by_fours s (a ∷ b ∷ []) l h = by_bytes s (a ∷ b ∷ []) h
by_fours s (a ∷ b ∷ c ∷ []) l h = by_bytes s (a ∷ b ∷ c ∷ []) h
by_fours s (a ∷ b ∷ c ∷ d ∷ rest) l h =
    let four = a ∷ b ∷ c ∷ d ∷ [] in
    let w = from_little_endian 4 0 four in
    let fits : w < 2 ^ 32 = omega (arith, h 0, h 1, h 2, h 3) in
    ap (λ (r : ℕ). over_fours slices r rest) (by_four (bit_xor s w) (xor_lt 32 s w l fits) ∙ sym (after_four s a b c d (h 0) (h 1) (h 2) (h 3)))
    ∙ by_fours (over_bits s (bits_of four)) rest (over_lt s (bits_of four) l) (λ i. h (suc (suc (suc (suc i)))))
    ∙ sym (ap (over_bits s) (bits_append four rest) ∙ over_append s (bits_of four) (bits_of rest))
