-- A floor put together from what a record's bits say, and back: its arrays, its height, and what no instruction of a kind touches.
-- Assumes nothing.
use mathlib.Core.Path.{◌≡◌, refl, ◌∙◌}
use Prim.Native.Nat.{ℕ, ◌+◌, ◌-◌, ◌≤◌, ◌<◌}
use native.Mathlib.Omega.{arith}
use lib.ListN.{length}
use Rattle.bits.specs.Bits.{Bits, bit}
use Rattle.floor.specs.Floor.{raised_car, height_low, height_high, drive_in, drive_out}
use Rattle.plain.specs.declared.Floor.{Floor}
use Rattle.plain.specs.declared.Height.{Height}
use Rattle.plain.specs.declared.Height.TheVariants.{Street, Rotation, Basement}
use Rattle.plain.specs.Plain.{listed, height_number, height_from, plain_bits, floor_of}
use Rattle.plain_moves.specs.Private.{slot_bits}
use Rattle.plain.proofs.Listing.{listed_same, list_is}
use Rattle.plain.proofs.Imaging.{floor_is, car_bit, coming_bit, going_bit}
use Rattle.plain.proofs.Standing.{cell_bit, slot_bit}

-- ---- a floor's bits

pub slot_in : (f : Floor) (k : ℕ) → 40 ≤ k → k < 52 → slot_bits f.slots k ≡ plain_bits f k
slot_in f k l h = slot_bit f (k - 40) k (omega arith) (omega arith)

-- a height is that of its digits
height_back : (h : Height) → h ≡ height_from (bit (height_number h) 0) (bit (height_number h) 1)
height_back Street = refl
height_back Rotation = refl
height_back Basement = refl

pub height_bits : (f : Floor) → f.height ≡ height_from (plain_bits f height_low) (plain_bits f height_high)
unfolding plain_bits
height_bits f = height_back f.height

-- ---- a whole floor

-- its arrays are as long as they should be
pub record Sized (f : Floor) : Type 0 where
  pub cells : length f.cells ≡ 40
  pub slots : length f.slots ≡ 12

-- the same from the lengths alone
pub sized : (f : Floor) → length f.cells ≡ 40 → length f.slots ≡ 12 → Sized f
sized f a b = record { cells = a; slots = b }

module _ (f : Floor) where
  -- an array that is kept, by the bits that it stands for
  pub cells_kept : (g : Bits) → Sized f → ((k : ℕ) → k < 40 → plain_bits f k ≡ g k) → f.cells ≡ listed 40 g
  cells_kept g s e = list_is 40 f.cells s.cells ∙ listed_same 40 _ _ (λ k h. cell_bit f k h ∙ e k h)

  pub slots_kept : (g : Bits) → Sized f → ((k : ℕ) → 40 ≤ k → k < 52 → plain_bits f k ≡ g k) → f.slots ≡ listed 12 (λ j. g (40 + j))
  slots_kept g s e = list_is 12 f.slots s.slots ∙ listed_same 12 _ _ (λ j h. slot_bit f j (40 + j) h refl ∙ e (40 + j) (omega arith) (omega arith))

  -- where nothing is touched the floor is as it was
  pub floor_kept : (g : Bits) → Sized f → ((k : ℕ) → plain_bits f k ≡ g k) → f ≡ floor_of g
  floor_kept g s e =
      floor_is g (cells_kept g s (λ k h. e k)) (slots_kept g s (λ k l h. e k)) (e height_low) (e height_high) (height_bits f) (car_bit f refl ∙ e raised_car)
      (coming_bit f refl ∙ e drive_in) (going_bit f refl ∙ e drive_out)
