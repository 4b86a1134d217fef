-- Eight marks, each yes or no, and the byte that carries them; with one more, and all of the first n. Assumes nothing.
use Rattle.std.proofs.Common.{◌≡◌, ℕ, ◌+◌, ◌-◌, ◌*◌, ◌^◌, ◌<◌, ◌≤◌, Bool, true, false, not, ◌||◌, eqb, ltb, List, length, get_or, set, sym, refl, ap, ◌∙◌, arith, length-set, get_or-set_other, get_or-set_same, ltb-false, ltb-true, ne_eqb, eqb-true}
use mathlib.Core.Path.{fun_ext}
use mathlib.Core.Bool.{or-true}
use mir.Val.{bool_byte}
use borrow.Author.Tests.{eqb-false}
use lib.Bits.{bit_or}
use lib.ListN.{get_or-eq_default}
use Rattle.bits.specs.Bits.{Bits, bit, packed}
use Rattle.bits.specs.Search.{every}
use Rattle.bits.proofs.Cases.{split}
use Rattle.bits.proofs.Search.{every_is}
use Rattle.bits.proofs.Digits.{bit_past, bit_pow, packed_lt}
use Rattle.bits.proofs.Packing.{packed_step, packed_part, byte_digit}
use Rattle.bits.proofs.Least.{Passed, every_not}
use Rattle.bits.proofs.Operations.{bit_or_lem}
use Rattle.plain.specs.Plain.{listed}
use Rattle.plain_station.specs.Private.{all_answered}
use Rattle.plain.proofs.Listing.{list_is}
use Rattle.plain_station.proofs.Standing.{mark_at}

-- a mark of a list, none past its end
abbrev at : List Bool → Bits
at l j = get_or l j false

-- ---- a byte of them

-- the marks from k on are in the byte
pub record Gathered (l : List Bool) (k byte : ℕ) : Type 0 where
  pub low : k ≤ 8
  pub held : byte ≡ packed (8 - k) k (at l)

pub gather_starts : (l : List Bool) → Gathered l 8 0
unfolding packed
gather_starts l = record { low = omega arith; held = refl }

-- one mark more is a byte still
pub gather_fits : {l : List Bool} {k byte : ℕ} (b : Bool) → Gathered l k byte → 0 < k → b ≡ at l (k - 1) → byte * 2 + bool_byte b < 256
gather_fits {l} {k} b g p e = rw (g.held, byte_digit b, e, ← packed_step 8 k (at l) p g.low) (packed_part 8 (k - 1) (at l))

pub gathers : {l : List Bool} {k byte : ℕ} (b : Bool) → Gathered l k byte → 0 < k → b ≡ at l (k - 1) → Gathered l (k - 1) (byte * 2 + bool_byte b)
gathers {l} {k} b g p e = record {
  low = let h = g.low in omega arith;
  held = rw (g.held, byte_digit b, e) (sym (packed_step 8 k (at l) p g.low));
}

pub gather_ends : {l : List Bool} {k byte : ℕ} → Gathered l k byte → k ≤ 0 → byte ≡ packed 8 0 (at l)
gather_ends {l} {k} g h = let z : k ≡ 0 = omega arith in g.held ∙ ap (λ (j : ℕ). packed (8 - j) j (at l)) z

-- ---- one mark more

marked_all : (l : List Bool) (i : ℕ) → length l ≡ 8 → i < 8 → (j : ℕ) → bit (bit_or (packed 8 0 (at l)) (2 ^ i)) j ≡ at (set l i true) j
marked_all l i e h j = bit_or_lem (packed 8 0 (at l)) (2 ^ i) j ∙ split (ltb j 8)
    (λ t. rw (mark_at l j (ltb-true j 8 t), bit_pow i j) (split (eqb i j)
    (λ u. rw (u, or-true (at l j), ← eqb-true i j u) (sym (get_or-set_same l i true false (omega arith))))
    (λ u. let ne = eqb-false i j u in rw u (one (at l j) ∙ sym (get_or-set_other l i j true false (λ z. ne (sym z)))))))
    (λ t. let k = ltb-false j 8 t in
    rw (bit_past (packed 8 0 (at l)) 8 j (packed_lt 8 0 (at l)) k, bit_pow i j, ne_eqb i j (λ z. omega arith))
    (sym (get_or-eq_default (set l i true) false (rw length-set (omega arith)))))
  where
    one : (b : Bool) → b || false ≡ b
    one true = refl
    one false = refl

module _ (l : List Bool) (i : ℕ) (e : length l ≡ 8) (h : i < 8) where
  -- the bits of the byte with its mark are the marks with one more
  pub marked_bits : bit (bit_or (packed 8 0 (at l)) (2 ^ i)) ≡ at (set l i true)
  marked_bits = fun_ext (marked_all l i e h)

  pub marked_list : listed 8 (bit (bit_or (packed 8 0 (at l)) (2 ^ i))) ≡ set l i true
  marked_list = ap (listed 8) marked_bits ∙ sym (list_is 8 (set l i true) (length-set l i true ∙ e))

  pub marked_every : (n : ℕ) → every n (bit (bit_or (packed 8 0 (at l)) (2 ^ i))) ≡ all_answered (set l i true) n
  unfolding all_answered
  marked_every n = ap (every n) marked_bits

-- ---- all of the first n

-- one that isn't answered
abbrev pub open' : List Bool → Bits
open' l j = not (at l j)

pub one_open : (l : List Bool) {n i : ℕ} → i < n → at l i ≡ false → false ≡ all_answered l n
unfolding all_answered
one_open l {n} {i} h e = sym (every_not n (at l) i h e)

pub none_open : (l : List Bool) {n i : ℕ} → Passed (open' l) n i → n ≤ i → true ≡ all_answered l n
unfolding all_answered
none_open l {n} {i} v h = sym (every_is n (at l) (λ j k. shut (at l j) (v.none j (omega arith))))
  where
    shut : (b : Bool) → not b ≡ false → b ≡ true
    shut true z = refl
    shut false z = sym z
