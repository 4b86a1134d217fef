-- What the contracts of private functions cite; no public one rests on it. A move as the code makes it: what each cell takes from a belt run,
-- and what each row of a side takes from its shuttles' move. That this is what the rules list is shown in proofs/. Assumes nothing.
use Rattle.std.specs.Prelude.{Bool, true, false, cond, ◌&&◌, List, [], ◌∷◌, ℕ, zero, suc, ◌+◌, ◌-◌, ◌*◌, eqb, ltb, leb, get_or, set}
use Rattle.std.specs.declared.option.Option.{Option}
use Rattle.std.specs.declared.option.Option.TheVariants.{Some, None}
use Rattle.bits.specs.Bits.{Bits, all_set}
use Rattle.floor.specs.Floor.{slot, place}
use Rattle.rules.specs.Named.{higher, step}
use Rattle.rules.specs.Cells.{cell_named, row_named, row_behind}

-- the forty cells as bits, and the twelve slots, which are the bits from 40 on
abbrev pub cell_bits : List Bool → Bits
cell_bits a k = get_or a k false

abbrev pub slot_bits : List Bool → Bits
slot_bits a k = get_or a (k - 40) false

-- a slot's place among the twelve
abbrev pub slot_index : ℕ → ℕ → ℕ → ℕ
slot_index side orientation row = slot side orientation row - 40

-- some elements set to a value
unfoldable pub stored : List ℕ → Bool → List Bool → List Bool
stored [] v a = a
stored (k ∷ ks) v a = stored ks v (set a k v)

-- ---- belts

-- the cell n behind, seen toward d, unless that is below 0
unfoldable pub cell_behind : ℕ → ℕ → ℕ → Option ℕ
cell_behind toward n k = cond (higher toward) (cond (ltb k n) None (Some (k - n))) (Some (k + n))

-- what a cell, if there is one, has in the span
abbrev pub in_span : ℕ → ℕ → Bits → Option ℕ → Bool
in_span row mask f None = false
in_span row mask f (Some j) = cell_named row mask j && f j

-- a cell of the span takes what the cell behind it in the span has, and is free where there is none; any other stays
unfoldable pub belt_after : ℕ → ℕ → ℕ → ℕ → Bits → Bits
belt_after row mask toward size f k = cond (cell_named row mask k) (in_span row mask f (cell_behind toward (step row size) k)) (f k)

-- ---- shuttles

-- the first cell of a position
unfoldable pub position_first_cell : ℕ → ℕ → ℕ
position_first_cell side row = cond (eqb row 1) (side * 18) (cond (eqb row 2) (20 + side * 9) (30 + side * 9))

-- the row from which a row takes what it has afterwards: the named row behind; where none is, a named one takes nothing, and any other
-- from itself
unfoldable pub row_source : ℕ → ℕ → ℕ → Option ℕ
row_source mask toward row = cond (row_named mask (row_behind toward row)) (Some (row_behind toward row)) (cond (row_named mask row) None (Some row))

-- a row, if there is one, is one of the three; it is this row
abbrev pub some_row : Option ℕ → Bool
some_row None = true
some_row (Some row) = leb 1 row && leb row 3

abbrev pub is_row : Option ℕ → ℕ → Bool
is_row None row = false
is_row (Some from) row = eqb from row

-- what a slot takes from the slot of a row
abbrev pub slot_from : ℕ → ℕ → Bits → Option ℕ → Bool
slot_from side orientation f None = false
slot_from side orientation f (Some row) = f (slot side orientation row)

-- the slots with the first n rows made so
unfoldable pub slots_after : ℕ → ℕ → ℕ → ℕ → List Bool → ℕ → List Bool
slots_after side mask orientation toward a zero = a
slots_after side mask orientation toward a (suc n) =
    set (slots_after side mask orientation toward a n) (slot_index side orientation (suc n))
    (slot_from side orientation (slot_bits a) (row_source mask toward (suc n)))

-- a car is at the position of a row
abbrev pub car_at : ℕ → Bits → Option ℕ → Bool
car_at side f None = false
car_at side f (Some row) = all_set (place side row) f

-- the cells of a row take the car at the position of another; where it takes from itself they stay
unfoldable pub row_from : ℕ → Bits → ℕ → Option ℕ → List Bool → List Bool
row_from side f row from new = cond (is_row from row) new (stored (place side row) (car_at side f from) new)

-- the cells with the first n rows made so
unfoldable pub cells_after : ℕ → ℕ → ℕ → List Bool → ℕ → List Bool
cells_after side mask toward a zero = a
cells_after side mask toward a (suc n) = row_from side (cell_bits a) (suc n) (row_source mask toward (suc n)) (cells_after side mask toward a n)
