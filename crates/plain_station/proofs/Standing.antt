-- A plain station stands for a packed one: the bits of its numbers are those of the floor and of the parts, and it comes back. Assumes
-- nothing.
use Rattle.std.proofs.Common.{◌≡◌, ℕ, ◌+◌, ◌-◌, ◌<◌, ◌≤◌, Bool, false, ltb, List, length, get_or, sym, refl, ap, ◌∙◌, arith, ltb-false, ltb-true, le-ltb, ne_eqb}
use mathlib.Core.Path.{fun_ext}
use Rattle.bits.specs.Bits.{Bits, bit, packed, image}
use Rattle.bits.proofs.Cases.{split}
use Rattle.bits.proofs.Digits.{bit_image, bit_past, bit_packed, packed_lt}
use Rattle.plain.specs.declared.Floor.{Floor}
use Rattle.plain.specs.Plain.{listed, plain_bits, floor_of}
use Rattle.plain.proofs.Listing.{listed_same, list_is}
use Rattle.plain_moves.specs.declared.Parts.{Parts}
use Rattle.plain_moves.specs.Moves.{parts_bits, parts_of}
use Rattle.plain_moves.proofs.Floors.{floor_kept}
use Rattle.plain_moves.proofs.Sharing.{cell_part, slot_part}
use Rattle.plain_station.specs.declared.Plain.{Plain}
use Rattle.plain_station.specs.Plain.{packed_of, plain_of}

-- ---- bits

-- from 64 on there is none
pub none_past : (f : Bits) → ((k : ℕ) → 64 ≤ k → f k ≡ false) → bit (image f) ≡ f
none_past f past = fun_ext (λ k. split (ltb k 64)
    (λ t. bit_image f k (ltb-true k 64 t))
    (λ t. let h = ltb-false k 64 t in bit_past (image f) 64 k (packed_lt 64 0 f) h ∙ sym (past k h)))

pub floor_bits : (f : Floor) → bit (image (plain_bits f)) ≡ plain_bits f
unfolding plain_bits
floor_bits f = none_past (plain_bits f) (λ k h. rw (
  le-ltb k 40 (omega arith),
  le-ltb k 52 (omega arith),
  ne_eqb k 52 (λ e. omega arith),
  ne_eqb k 53 (λ e. omega arith),
  ne_eqb k 54
      (λ e. omega arith),
  ne_eqb k 55 (λ e. omega arith),
  ne_eqb k 56 (λ e. omega arith),
))

pub parts_bits_lem : (p : Parts) → bit (image (parts_bits p)) ≡ parts_bits p
unfolding parts_bits
parts_bits_lem p = none_past (parts_bits p) (λ k h. rw (le-ltb k 40 (omega arith), le-ltb k 52 (omega arith), ne_eqb k 52 (λ e. omega arith)))

-- floors of records that agree on all 64 bits
pub floor_same : (f g : Bits) → ((k : ℕ) → k < 64 → f k ≡ g k) → floor_of f ≡ floor_of g
unfolding floor_of
floor_same f g e = rw (
  listed_same 40 f g (λ j h. e j (omega arith)),
  listed_same 12 (λ j. f (40 + j)) (λ j. g (40 + j)) (λ j h. e (40 + j) (omega arith)),
  e 52 (omega arith),
  e 53 (omega arith),
  e 54 (omega arith),
  e 55 (omega arith),
  e 56 (omega arith),
)

-- ---- back

pub floor_back : (f : Floor) → length f.cells ≡ 40 → length f.slots ≡ 12 → floor_of (plain_bits f) ≡ f
floor_back f c s = sym (floor_kept f (plain_bits f) (record { cells = c; slots = s }) (λ k. refl))

pub parts_back : (p : Parts) → length p.cells ≡ 40 → length p.slots ≡ 12 → parts_of (parts_bits p) ≡ p
unfolding parts_of parts_bits
parts_back p c s = rw (sym cells, sym slots)
  where
    cells : p.cells ≡ listed 40 (parts_bits p)
    cells = list_is 40 p.cells c ∙ listed_same 40 _ _ (cell_part p)

    slots : p.slots ≡ listed 12 (λ j. parts_bits p (40 + j))
    slots = list_is 12 p.slots s ∙ listed_same 12 _ _ (λ j h.
        let e : j ≡ 40 + j - 40 = omega arith in
        ap (λ (n : ℕ). get_or p.slots n false) e ∙ slot_part p (40 + j) (omega arith) (omega arith))

-- the marks of a byte
pub mark_at : (l : List Bool) (i : ℕ) → i < 8 → bit (packed 8 0 (λ j. get_or l j false)) i ≡ get_or l i false
mark_at l i h = bit_packed 8 0 (λ j. get_or l j false) i h ∙ ap (λ (j : ℕ). get_or l j false) (omega arith)

pub marks_back : (l : List Bool) → length l ≡ 8 → listed 8 (bit (packed 8 0 (λ j. get_or l j false))) ≡ l
marks_back l e = listed_same 8 _ (λ j. get_or l j false) (mark_at l) ∙ sym (list_is 8 l e)

-- ---- the station

-- a station as code holds it: its arrays have their lengths
pub record Sized (p : Plain) : Type 0 where
  pub cells : length p.floor.cells ≡ 40
  pub slots : length p.floor.slots ≡ 12
  pub apart_cells : length p.apart.cells ≡ 40
  pub apart_slots : length p.apart.slots ≡ 12
  pub marks : length p.answered ≡ 8

-- it is the plain one of the station that it stands for
pub comes_back : (p : Plain) → Sized p → plain_of (packed_of p) ≡ p
unfolding plain_of packed_of
comes_back p z = rw (
  floor_bits p.floor,
  floor_back p.floor z.cells z.slots,
  parts_bits_lem p.apart,
  parts_back p.apart z.apart_cells z.apart_slots,
  marks_back p.answered z.marks,
)
