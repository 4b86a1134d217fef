-- Lists of cars: the place where each begins, which cars are in a list, and when it goes by places. Assumes nothing.
use Rattle.std.specs.Prelude.{◌≡◌, ◌⊎◌, List, [], ◌∷◌, ℕ, ◌<◌}
use Rattle.floor.specs.Floor.{raised_car}
use Rattle.floor.specs.Cars.{Car, pair, single, raised}

-- the place where a car begins, and where its card number stands: the lower of its two cells, its one cell, or the raised lift
abbrev pub anchor : Car → ℕ
anchor (pair c) = c
anchor (single c) = c
anchor raised = raised_car

-- a car is one of a list
unfoldable pub Among : Car → List Car → Type 0
Among x [] = ⊥
Among x (y ∷ l) = (x ≡ y) ⊎ Among x l

-- the cars of a list stand in the order of their places
abbrev pub Rising : List Car → Type 0
Rising [] = Unit {0}
Rising (x ∷ l) = ((y : Car) → Among y l → anchor x < anchor y) × Rising l
