-- What is promised of the tests and numbers that the code computes: they say what document 01 says in terms of cars.
-- Proved in proofs/Promises.antt. Assumes nothing.
use Rattle.std.specs.Prelude.{◌≡◌, ◌↔◌, true, false, List, [], ◌∷◌, ℕ, ◌≤◌, ◌<◌, T, length, get_or}
use Rattle.bits.specs.Bits.{Bits, bit}
use Rattle.bits.specs.Places.{elem}
use Rattle.std.specs.declared.option.Option.TheVariants.{Some}
use Rattle.floor.specs.Floor.{belt, belt_cells, belt_of, raised_car, street}
use Rattle.floor.specs.Tests.{Test, free, both, holds, height_is}
use Rattle.floor.specs.Cars.{Car, covered, Layout, cars}
use Rattle.floor.specs.Sound.{Sound, paired, sound, total}
use Rattle.floor.specs.Belts.{There}

-- a layout of cars exists exactly if row 1 splits into pairs
abbrev pub LayoutExactly : Type 0
LayoutExactly = (f : Bits) → (paired 20 0 false f ≡ true) ↔ ((l : List Car) × Layout f l)

-- every layout of a record has as many cars as are counted
abbrev pub LayoutCars : Type 0
LayoutCars = (f : Bits) (l : List Car) → Layout f l → length l ≡ cars f

-- a sound record has at most 30 cars
abbrev pub FewCars : Type 0
FewCars = (r n : ℕ) → total r ≡ Some n → n ≤ 30

-- a record has 30 cars: every cell occupied, every shuttle lowered, the lift in the basement
abbrev pub ThirtyCars : Type 0
ThirtyCars = total 0x00403FFFFFFFFFFF ≡ Some 30

-- the lift is at street and empty
abbrev pub empty_at_street : Test
empty_at_street = both (height_is street) (free (raised_car ∷ []))

-- a sound record with the lift empty at street has at most 28 cars
abbrev pub AtMost28 : Type 0
AtMost28 = (r n : ℕ) → total r ≡ Some n → holds empty_at_street (bit r) ≡ true → n ≤ 28

-- a record with the lift empty at street has 28 cars: in row 1 five left of the lift and three right of it, every other cell occupied,
-- every shuttle lowered
abbrev pub TwentyEight : Type 0
TwentyEight = (total 0x00003FFFFFFFC3FF ≡ Some 28) × (holds empty_at_street (bit 0x00003FFFFFFFC3FF) ≡ true)

-- the test of an image passes exactly if it is a sound record
abbrev pub SoundExactly : Type 0
SoundExactly = (r : ℕ) → (sound r ≡ true) ↔ Sound (bit r)

-- in every layout of a sound record, each place under a car is on a belt that is there
abbrev pub OnBelts : Type 0
OnBelts = (f : Bits) (l : List Car) → Sound f → Layout f l → (k : ℕ) → 0 < covered l k → There f k

-- the belt under a cell is a given one exactly if the cell is among that belt's
abbrev pub BeltsExactly : Type 0
BeltsExactly =
    (row number k : ℕ) → (0 < row) × (row < 4) × (number < 5) × (k < 64) → (belt_of k ≡ belt row number) ↔ T (elem k (get_or (belt_cells row) number []))
