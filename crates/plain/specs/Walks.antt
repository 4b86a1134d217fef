-- The cars of a record, listed by walking its rows: row 1, row 2, row 3, then the raised lift. Assumes nothing.
use Rattle.std.specs.Prelude.{Bool, false, not, cond, ◌&&◌, List, [], ◌∷◌, ◌++◌, map, ℕ, zero, suc, ◌-◌, length, replicate}
use Rattle.bits.specs.Bits.{Bits}
use Rattle.floor.specs.Floor.{row_cells, raised_car}
use Rattle.floor.specs.Cars.{Car, pair, single, raised}
use Rattle.cars.specs.Lists.{anchor}
use Rattle.plain.specs.declared.Walk.{Walk}

-- n cells of row 1 from k on, where half says that a car began at the cell before: a cell that is occupied and not that car's other half
-- begins one
unfoldable pub pairs_from : ℕ → ℕ → Bool → Bits → List Car
pairs_from zero k half f = []
pairs_from (suc n) k half f =
    let here = f k && not half in
    let rest = pairs_from n (suc k) here f in
    cond here (pair k ∷ rest) rest

-- each occupied one of some cells of rows 2 and 3 is a car
unfoldable pub singles_of : List ℕ → Bits → List Car
singles_of [] f = []
singles_of (k ∷ ks) f = let rest = singles_of ks f in cond (f k) (single k ∷ rest) rest

-- the whole walk
unfoldable pub walked : Bits → List Car
walked f = pairs_from 20 0 false f ++ (singles_of (row_cells 2 ++ row_cells 3) f ++ cond (f raised_car) (raised ∷ []) [])

-- as the code lists them: each by the place where it begins, zeros past them
unfoldable pub walk_of : List Car → Walk
walk_of l = record { starts = map anchor l ++ replicate (31 - length l) 0; count = length l }
