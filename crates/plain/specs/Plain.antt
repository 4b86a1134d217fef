-- The floor as the paper has it, cell by cell, and how it stands for a record. Assumes nothing.
use Rattle.std.specs.Prelude.{Bool, false, cond, List, [], ◌∷◌, ℕ, zero, suc, ◌+◌, ◌-◌, eqb, ltb, get_or}
use Rattle.bits.specs.Bits.{Bits, bit}
use Rattle.floor.specs.Floor.{raised_car, height_low, height_high, street, rotation, basement, drive_in, drive_out}
use Rattle.plain.specs.declared.Height.{Height}
use Rattle.plain.specs.declared.Height.TheVariants.{Street, Rotation, Basement}
use Rattle.plain.specs.declared.Floor.{Floor}

-- f 0, f 1, .., n of them
unfoldable pub listed : ℕ → Bits → List Bool
listed zero f = []
listed (suc n) f = f 0 ∷ listed n (λ j. f (suc j))

-- a height's number, and the height of a number
abbrev pub height_number : Height → ℕ
height_number Street = street
height_number Rotation = rotation
height_number Basement = basement

abbrev pub height_from : Bool → Bool → Height
height_from low high = cond high Basement (cond low Rotation Street)

-- the bits that a floor stands for
unfoldable pub plain_bits : Floor → Bits
plain_bits f k =
    cond (ltb k 40) (get_or f.cells k false)
    (cond (ltb k 52) (get_or f.slots (k - 40) false)
    (cond (eqb k raised_car) f.car
    (cond (eqb k height_low) (bit (height_number f.height) 0)
    (cond (eqb k height_high) (bit (height_number f.height) 1)
    (cond (eqb k drive_in) f.coming
    (cond (eqb k drive_out) f.going
    false))))))

-- the floor of a record
unfoldable pub floor_of : Bits → Floor
floor_of f =
    record {
      cells = listed 40 f;
      slots = listed 12 (λ j. f (40 + j));
      car = f raised_car;
      height = height_from (f height_low) (f height_high);
      coming = f drive_in;
      going = f drive_out;
    }
