-- What the contracts of private functions cite; no public one rests on it. The parts that decide each condition, as the code finds them:
-- some of the instruction's area, or marked one by one. That they are those which the conditions read is shown in proofs/. Assumes nothing.
use Rattle.std.specs.Prelude.{Bool, true, false, cond, not, ◌&&◌, List, [], ◌∷◌, ℕ, zero, suc, ◌+◌, ◌-◌, ◌*◌, eqb, ltb, get_or, set, replicate}
use Rattle.bits.specs.Bits.{bit, digit}
use Rattle.floor.specs.Floor.{lowered}
use Rattle.rules.specs.declared.Instruction.{Instruction}
use Rattle.rules.specs.declared.Instruction.TheVariants.{Belts, Shuttles, Tilt, Lift, Rotate}
use Rattle.rules.specs.Named.{higher, step}
use Rattle.plain.specs.Plain.{listed}
use Rattle.plain_moves.specs.declared.Parts.{Parts}
use Rattle.plain_moves.specs.Moves.{area_parts}

-- ---- parts of one kind

-- no cell, no slot
abbrev pub no_cells : List Bool
no_cells = replicate 40 false

abbrev pub no_slots : List Bool
no_slots = replicate 12 false

-- some cells; some slots; the lift with some cells; nothing
abbrev pub cells_alone : List Bool → Parts
cells_alone cells = record { cells = cells; slots = no_slots; lift = false }

abbrev pub slots_alone : List Bool → Parts
slots_alone slots = record { cells = no_cells; slots = slots; lift = false }

abbrev pub lift_with : List Bool → Parts
lift_with cells = record { cells = cells; slots = no_slots; lift = true }

abbrev pub no_parts : Parts
no_parts = cells_alone no_cells

-- ---- belts

-- the cells of a floor from its end toward d, from 0
unfoldable pub cell_from_end : Bool → ℕ → ℕ
cell_from_end up j = cond up (39 - j) j

-- m cells from cell j from the end on, of which the first so many that are in a span are marked
unfoldable pub end_from : ℕ → ℕ → ℕ → Bool → List Bool → List Bool → List Bool
end_from zero j left up span marked = marked
end_from (suc m) j left up span marked =
    let k = cell_from_end up j in
    let here = ltb 0 left && get_or span k false in
    end_from m (suc j) (left - digit here) up span (set marked k here)

-- the last n cells of a span toward d
abbrev pub end_of : List Bool → ℕ → ℕ → List Bool
end_of span toward n = end_from 40 0 n (higher toward) span no_cells

-- what decides condition c of a belt move
unfoldable pub belts_read : Parts → ℕ → ℕ → ℕ → ℕ → Parts
belts_read area row toward size c =
    cond (eqb c 3) (record { cells = no_cells; slots = area.slots; lift = area.lift })
    (cond (eqb c 4) (cells_alone (end_of area.cells toward (step row size)))
    (cond (eqb c 5) (cond (eqb row 1) (cells_alone area.cells) no_parts)
    no_parts))

-- ---- shuttles

-- the slots of a side in one orientation in those of the three rows that are marked
unfoldable pub slots_of_rows : ℕ → ℕ → List Bool → List Bool
slots_of_rows side orientation rows =
    let first = orientation * 6 + side * 3 in
    set (set (set no_slots first (get_or rows 0 false)) (first + 1) (get_or rows 1 false)) (first + 2) (get_or rows 2 false)

-- the rows that a mask names; of the rows that it doesn't name, the one next to the last of them toward d
abbrev pub rows_named : ℕ → List Bool
rows_named mask = bit mask 0 ∷ bit mask 1 ∷ bit mask 2 ∷ []

unfoldable pub rows_ahead : ℕ → ℕ → List Bool
rows_ahead mask toward =
    let one = bit mask 0 in
    let two = bit mask 1 in
    let three = bit mask 2 in
    cond (higher toward)
    (false ∷ (one && not two && not three) ∷ (two && not three) ∷ [])
    ((two && not one) ∷ (three && not two && not one) ∷ false ∷ [])

-- one row of three
abbrev pub row_alone : ℕ → List Bool
row_alone row = eqb row 1 ∷ eqb row 2 ∷ eqb row 3 ∷ []

-- the two cells of a side's shuttle in row 1
unfoldable pub shuttle_cells : ℕ → List Bool
shuttle_cells side = set (set no_cells (side * 18) true) (side * 18 + 1) true

-- what decides condition c of a shuttle move
unfoldable pub shuttles_read : ℕ → ℕ → ℕ → ℕ → ℕ → Parts
shuttles_read side mask orientation toward c =
    cond (eqb c 2) (slots_alone (slots_of_rows side orientation (rows_named mask)))
    (cond (eqb c 3) (cond (eqb orientation lowered && bit mask 0) (cells_alone (shuttle_cells side)) no_parts)
    (cond (eqb c 4) (slots_alone (slots_of_rows side orientation (rows_ahead mask toward)))
    no_parts))

-- what decides condition c of a tilt, from lowered and from tilted
unfoldable pub tilt_read : Parts → ℕ → ℕ → ℕ → ℕ → Parts
tilt_read area side row orientation c =
    cond (eqb orientation lowered)
    (cond (eqb c 0) (slots_alone (slots_of_rows side 0 (true ∷ true ∷ true ∷ [])))
    (cond (eqb c 1) (cells_alone area.cells)
    no_parts))
    (cond (eqb c 0) (slots_alone (slots_of_rows side 1 (row_alone row)))
    (cond (eqb c 1) (slots_alone (slots_of_rows side 0 (row_alone row)))
    no_parts))

-- ---- the lift

-- the cells of row 1
abbrev pub row_one : List Bool
row_one = listed 40 (λ k. ltb k 20)

-- what decides condition c of a lift run, and of a turn
unfoldable pub lift_read : ℕ → Parts
lift_read c = cond (eqb c 0) (lift_with no_cells) (cond (eqb c 1) (lift_with row_one) no_parts)

unfoldable pub rotate_read : Parts → ℕ → Parts
rotate_read area c = cond (eqb c 0) (lift_with no_cells) (cond (eqb c 1) (cells_alone area.cells) no_parts)

-- ---- all

-- what decides condition c of a well-formed instruction
unfoldable pub parts_read : Instruction → ℕ → Parts
parts_read (Belts row mask toward size) c = belts_read (area_parts (Belts row mask toward size)) row toward size c
parts_read (Shuttles side mask orientation toward) c = shuttles_read side mask orientation toward c
parts_read (Tilt side row orientation) c = tilt_read (area_parts (Tilt side row orientation)) side row orientation c
parts_read (Lift height) c = lift_read c
parts_read Rotate c = rotate_read (area_parts Rotate) c
