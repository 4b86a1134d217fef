-- Cars, and how the occupied places of a record are laid out as whole cars. Assumes nothing.
use Rattle.std.specs.Prelude.{◌≡◌, ◌⊎◌, List, [], ◌∷◌, ◌++◌, ℕ, suc, ◌+◌, ◌/◌, ◌≤◌, ◌<◌, eqb}
use Rattle.bits.specs.Bits.{Bits, digit, count}
use Rattle.floor.specs.Floor.{row_cells, raised_car}

-- a car: two neighbouring cells of row 1, by the lower; one cell of row 2 or 3; or on the raised lift
pub data Car : Type 0 where
  pair : ℕ → Car
  single : ℕ → Car
  raised : Car

-- its cells are cells of those rows
abbrev pub Stands : Car → Type 0
Stands (pair c) = c < 19
Stands (single c) = (20 ≤ c) × (c < 40)
Stands raised = Unit {0}

-- 1 for the same place, 0 for another
abbrev pub at : ℕ → ℕ → ℕ
at c k = digit (eqb c k)

-- how often a car covers a place
abbrev pub covers : Car → ℕ → ℕ
covers (pair c) k = at c k + at (suc c) k
covers (single c) k = at c k
covers raised k = at raised_car k

-- how many cars of a list cover a place
unfoldable pub covered : List Car → ℕ → ℕ
covered [] k = 0
covered (x ∷ l) k = covers x k + covered l k

-- each car of a list stands on the floor
unfoldable pub AllStand : List Car → Type 0
AllStand [] = Unit {0}
AllStand (x ∷ l) = Stands x × AllStand l

-- the places where cars can be: the cells, and the raised lift
abbrev pub Place : ℕ → Type 0
Place k = (k < 40) ⊎ (k ≡ raised_car)

-- the cars l are a layout of the record f: each occupied place is under exactly one of them, each free place under none
pub record Layout (f : Bits) (l : List Car) : Type 0 where
  pub stand : AllStand l
  pub cover : (k : ℕ) → Place k → covered l k ≡ digit (f k)

-- the number of cars: two half cells of row 1 a car, one cell of rows 2 and 3, the raised lift
unfoldable pub cars : Bits → ℕ
cars f = count (row_cells 1) f / 2 + count (row_cells 2 ++ row_cells 3) f + digit (f raised_car)
