-- The loops: the tables are filled entry by entry; bytes are taken from the front, one by one or by four. Assumes nothing.
use mathlib.Core.Path.{◌≡◌, refl, sym, ap, ap₂, ◌∙◌}
use mathlib.Core.Logic.{⊎_elim}
use mathlib.Core.List.{List, [], ◌∷◌}
use Prim.Native.Nat.{ℕ, suc, ◌+◌, ◌-◌, ◌*◌, ◌/◌, ◌%◌, ◌≤◌, ◌<◌}
use native.Mathlib.Omega.{arith}
use native.Mathlib.Nat.{eq-or-lt_of_le}
use native.Mathlib.Numerals.{add-one}
use lib.Bits.{bit_xor}
use lib.ListN.{length, get_or, set, drop, replicate, length-set, length-replicate, length-drop, drop_of_length-le}
use lib.Dec.{T, eqb}
use lib.Seq.{get_or-set_same, get_or-set_other, ext_get_or, drop-cons, drop-drop}
use borrow.Author.Tests.{eqb-true}
use Rattle.bits.specs.Search.{every}
use Rattle.bits.proofs.Cases.{T→true}
use Rattle.bits.proofs.Search.{each}
use Rattle.codec.specs.Bytes.{from_little_endian}
use Rattle.codec.proofs.Numbers.{read_from}
use Rattle.codec.specs.Fours.{four_at}
use Rattle.codec.proofs.Fours.{four_there}
use Rattle.checksum.specs.Checksum.{over_bits, low_bits, bits_of}
use Rattle.checksum.specs.Slices.{zeros_on, table_entry, slices, over_byte, over_four, over_bytes, over_fours}
use Rattle.checksum.proofs.Moves.{moved_add, over_append}
use Rattle.checksum.proofs.Slices.{slices_long, entries, after_byte}

-- ---- the tables

-- the first p entries are there
pub record Made (t : List ℕ) (p : ℕ) : Type 0 where
  pub long : length t ≡ 1024
  pub done : (q : ℕ) → q < p → get_or t q 0 ≡ table_entry q

pub made_none : Made (replicate 1024 0) 0
made_none = record { long = length-replicate {A = ℕ} 1024 0; done = λ q h. absurd (omega arith) }

pub made_more : {t : List ℕ} {p v : ℕ} → Made t p → p < 1024 → v ≡ table_entry p → Made (set t p v) (p + 1)
made_more {t} {p} {v} m h e = record {
  long = length-set t p v ∙ m.long;
  done = λ q l. ⊎_elim
      (λ (z : q ≡ p). ap (λ (x : ℕ). get_or (set t p v) x 0) z ∙ get_or-set_same t p v 0 (omega (arith, m.long)) ∙ e ∙ ap table_entry (sym z))
      (λ (z : q < p). get_or-set_other t p q v 0 (λ n. omega arith) ∙ m.done q z)
      (eq-or-lt_of_le (omega arith));
}

pub made_all : {t : List ℕ} {p : ℕ} → Made t p → 1024 ≤ p → t ≡ slices
made_all {t} {p} m h =
    ext_get_or 0 t slices (m.long ∙ sym slices_long)
    (λ q l. m.done q (omega (arith, m.long)) ∙ sym (entries q (omega (arith, m.long))))

-- an entry of the first table, and one of a further table from the one before
pub entry_first : (p : ℕ) → p < 256 → zeros_on 8 p ≡ table_entry p
entry_first p h =
    let i : 8 ≡ 8 * (p / 256 + 1) = omega arith in
    let j : p ≡ p % 256 = omega arith in
    ap₂ zeros_on i j

pub entry_next : {t : List ℕ} {p : ℕ} → Made t p → 256 ≤ p → zeros_on 8 (get_or t (p - 256) 0) ≡ table_entry p
entry_next {t} {p} m h =
    let i : 8 * ((p - 256) / 256 + 1) + 8 ≡ 8 * (p / 256 + 1) = omega arith in
    let j : (p - 256) % 256 ≡ p % 256 = omega arith in
    ap (zeros_on 8) (m.done (p - 256) (omega arith)) ∙ sym (moved_add (8 * ((p - 256) / 256 + 1)) 8 ((p - 256) % 256)) ∙ ap₂ zeros_on i j

-- ---- bytes from the front

-- what is left to do makes the whole, where f goes over bytes from a state on
pub record Rest (f : ℕ → List ℕ → ℕ) (all : ℕ) (bytes : List ℕ) (s i : ℕ) : Type 0 where
  pub within : i ≤ length bytes
  pub makes : f s (drop i bytes) ≡ all

module _ {f : ℕ → List ℕ → ℕ} {all : ℕ} {bytes : List ℕ} {s i : ℕ} (v : Rest f all bytes s i) where
  pub rest_more : {r : ℕ} → i < length bytes → f s (get_or bytes i 0 ∷ drop (suc i) bytes) ≡ f r (drop (suc i) bytes) → Rest f all bytes r (i + 1)
  rest_more {r} h e = record {
    within = omega arith;
    makes =
        ap (λ (n : ℕ). f r (drop n bytes)) (add-one i) ∙ sym e ∙ sym (ap (f s) (drop-cons bytes i 0 h)) ∙ v.makes;
  }

  pub rest_done : length bytes ≤ i → f s [] ≡ s → s ≡ all
  rest_done h e = sym e ∙ sym (ap (f s) (drop_of_length-le bytes h)) ∙ v.makes

-- one more byte by the first table, or by its bits
pub byte_more : (t : List ℕ) {all s i r : ℕ} {bytes : List ℕ} → Rest (over_bytes t) all bytes s i → i < length bytes
    → r ≡ over_byte t (bit_xor s (get_or bytes i 0)) → Rest (over_bytes t) all bytes r (i + 1)
unfolding over_bytes
byte_more t {all} {s} {i} {r} {bytes} v h e = rest_more v h (ap (λ (y : ℕ). over_bytes t y (drop (suc i) bytes)) (sym e))

pub byte_done : (t : List ℕ) {all s i : ℕ} {bytes : List ℕ} → Rest (over_bytes t) all bytes s i → length bytes ≤ i → s ≡ all
unfolding over_bytes
byte_done t v h = rest_done v h refl

abbrev pub over_all : ℕ → List ℕ → ℕ
over_all s xs = over_bits s (bits_of xs)

pub bits_more : {all s i r : ℕ} {bytes : List ℕ} → Rest over_all all bytes s i → i < length bytes → get_or bytes i 0 < 256
    → r ≡ zeros_on 8 (bit_xor s (get_or bytes i 0)) → Rest over_all all bytes r (i + 1)
unfolding bits_of
bits_more {all} {s} {i} {r} {bytes} v h l e =
    let x = get_or bytes i 0 in
    let xs = bits_of (drop (suc i) bytes) in
    rest_more v h (over_append s (low_bits 8 x) xs ∙ ap (λ (y : ℕ). over_bits y xs) (after_byte s x l ∙ sym e))

pub bits_done : {all s i : ℕ} {bytes : List ℕ} → Rest over_all all bytes s i → length bytes ≤ i → s ≡ all
unfolding bits_of over_bits
bits_done v h = rest_done v h refl

-- ---- bytes by four

four_more : (t : List ℕ) (s : ℕ) (l : List ℕ) → 4 ≤ length l
    → over_fours t s l ≡ over_fours t (over_four t (bit_xor s (from_little_endian 4 0 l))) (drop 4 l)
unfolding over_fours
four_more t s [] h = absurd (omega arith)
four_more t s (a ∷ []) h = absurd (omega arith)
four_more t s (a ∷ b ∷ []) h = absurd (omega arith)
four_more t s (a ∷ b ∷ c ∷ []) h = absurd (omega arith)
four_more t s (a ∷ b ∷ c ∷ d ∷ rest) h = refl

-- fewer than four
few : (t : List ℕ) (s : ℕ) (l : List ℕ) → length l < 4 → over_fours t s l ≡ over_bytes t s l
unfolding over_fours over_bytes
few t s [] h = refl
few t s (a ∷ []) h = refl
few t s (a ∷ b ∷ []) h = refl
few t s (a ∷ b ∷ c ∷ []) h = refl
few t s (a ∷ b ∷ c ∷ d ∷ rest) h = absurd (omega arith)

pub four_at_lem : (bytes : List ℕ) (i : ℕ) → i + 4 ≤ length bytes → four_at i bytes ≡ from_little_endian 4 0 (drop i bytes)
four_at_lem bytes i h = four_there i bytes h ∙ read_from i 4 bytes (omega arith)

module _ (t : List ℕ) {bytes : List ℕ} {all s i : ℕ} (v : Rest (over_fours t) all bytes s i) where
  pub fours_more : {w r : ℕ} → 4 ≤ length bytes - i → w ≡ four_at i bytes → r ≡ over_four t (bit_xor s w) → Rest (over_fours t) all bytes r (i + 4)
  fours_more {w} {r} h f e = record {
    within = omega (arith, v.within);
    makes =
        ap₂ (over_fours t) (e ∙ ap (λ (x : ℕ). over_four t (bit_xor s x)) (f ∙ four_at_lem bytes i (omega (arith, v.within))))
        (sym (drop-drop 4 i bytes))
        ∙ sym (four_more t s (drop i bytes) (omega (arith, length-drop i bytes))) ∙ v.makes;
  }

  pub fours_done : {r : ℕ} → length bytes - i < 4 → r ≡ over_bytes t s (drop i bytes) → r ≡ all
  fours_done h e = e ∙ sym (few t s (drop i bytes) (omega (arith, length-drop i bytes))) ∙ v.makes

-- ---- a byte by its bits

abbrev becomes : ℕ → ℕ
becomes x =
    bit_xor (bit_xor (bit_xor (bit_xor (bit_xor (bit_xor (bit_xor (x % 2 * 0xF26B8303) (x / 2 % 2 * 0xE13B70F7)) (x / 4 % 2 * 0xC79A971F)) (x / 8 % 2 * 0x8AD958CF)) (x / 16 % 2 * 0x105EC76F)) (x / 32 % 2 * 0x20BD8EDE)) (x / 64 % 2 * 0x417B1DBC)) (x / 128 % 2 * 0x82F63B78)

all_become : T (every 256 (λ x. eqb (becomes x) (zeros_on 8 x)))
unfolding every zeros_on
all_become = tt

pub byte_becomes : (x : ℕ) → x < 256 → becomes x ≡ zeros_on 8 x
byte_becomes x h = eqb-true (becomes x) (zeros_on 8 x) (T→true (eqb (becomes x) (zeros_on 8 x)) (each 256 (λ x. eqb (becomes x) (zeros_on 8 x)) all_become x h))
