-- The five instructions of document 01: which are well formed, their areas, when each is allowed and why not, and the next record.
-- Assumes nothing.
use Rattle.std.specs.Prelude.{Bool, true, false, cond, not, ◌&&◌, ◌||◌, List, [], ◌∷◌, ◌++◌, map, ℕ, ◌-◌, eqb, leb}
use Rattle.bits.specs.Bits.{Bits, bit}
use Rattle.bits.specs.Places.{elem, share, is_empty, adjacent, join}
use Rattle.floor.specs.Floor.{lowered, tilted, slot, place, lift, lift_cells, left_of_lift, right_of_lift, turning_cells, raised_car, height_low, height_high, rotation, basement}
use Rattle.floor.specs.Tests.{Test, fact, set, free, even, no, both, either, when, choose, holds, all_hold, height_is, at_basement, Change, ◌≔◌, changed}
use Rattle.floor.specs.Sound.{slots}
use Rattle.answers.specs.declared.Reason.{Reason}
use Rattle.answers.specs.declared.Reason.TheVariants.{NothingNamed, Gap, NotAvailable, NotFree, OddCount, HalfMove, SameHeight, NotAtRotation, CellsNotFree}
use Rattle.rules.specs.declared.Instruction.{Instruction}
use Rattle.rules.specs.declared.Instruction.TheVariants.{Belts, Shuttles, Tilt, Lift, Rotate}
use Rattle.rules.specs.Named.{cells, needed_slots, lift_named, step, end, rows_of, onward, ahead, rows_moved, shift, one}

-- ---- which are well formed

-- a row, and a mask of its belts: five in row 1, three else
abbrev pub belts_named : ℕ → ℕ → Bool
belts_named row mask = leb 1 row && leb row 3 && leb mask (cond (eqb row 1) 31 7)

-- each number is in its range
abbrev pub well_formed : Instruction → Bool
well_formed (Belts row mask toward size) = belts_named row mask && leb toward 1 && leb size 1
well_formed (Shuttles side mask orientation toward) = leb side 1 && leb mask 7 && leb orientation 1 && leb toward 1
well_formed (Tilt side row orientation) = leb side 1 && (leb 1 row && leb row 3) && leb orientation 1
well_formed (Lift height) = leb height 2
well_formed Rotate = true

-- ---- areas: they don't depend on the record; and what is read outside them

abbrev pub area_of : Instruction → List ℕ
-- the cells of its belts; the lowered slots of its shuttle belts; the lift, if its belt is named
area_of (Belts row mask toward size) = cells row mask ++ needed_slots row mask ++ cond (lift_named row mask) lift []
-- the named slots in that orientation and, for each, the one a row toward d; when lowered, also those positions' cells
area_of (Shuttles side mask orientation toward) =
    let rows = rows_of mask ++ join (map (onward toward) (rows_of mask)) in
    map (slot side orientation) rows ++ cond (eqb orientation lowered) (join (map (place side) rows)) []
-- from lowered: the side's three lowered slots, the tilted slot and cells of the position; from tilted: both slots and the cells
area_of (Tilt side row orientation) =
    cond (eqb orientation lowered) (slots side lowered ++ slot side tilted row ∷ []) (slot side lowered row ∷ slot side tilted row ∷ [])
    ++ place side row
-- the lift and its two cells
area_of (Lift height) = lift ++ lift_cells
-- the lift and its six cells
area_of Rotate = lift ++ turning_cells

-- whether a place is in the area
unfoldable pub area : Instruction → Bits
area i k = elem k (area_of i)

-- two instructions overlap if their areas share anything
unfoldable pub overlap : Instruction → Instruction → Bool
overlap i j = share (area_of i) (area_of j)

-- whether each side's count of occupied cells is even: left of the lift, right of it
abbrev pub sides : Bits → List Bool
sides f = holds (even left_of_lift) f ∷ holds (even right_of_lift) f ∷ []

-- what an instruction reads of a record besides its area: a lift run whether each side's count is even, the others nothing
abbrev pub seen : Instruction → Bits → List Bool
seen (Belts row mask toward size) f = []
seen (Shuttles side mask orientation toward) f = []
seen (Tilt side row orientation) f = []
seen (Lift height) f = sides f
seen Rotate f = []

-- ---- when each is allowed: conditions in the paper's order, and why not

-- a condition, and the reason that is given where it is the first to fail
pub data Clause : Type 0 where
  ◌else◌ : Test → Reason → Clause

infix 70 ◌else◌
abbrev pub test : Clause → Test
test (t else why) = t

abbrev pub clauses : Instruction → List Clause
clauses (Belts row mask toward size) =
    -- rows 2 and 3 move full only
    fact (eqb row 1 || eqb size 1) else HalfMove
    -- at least one belt
    ∷ fact (not (is_empty (cells row mask))) else NothingNamed
    -- the belts border each other without a gap
    ∷ fact (adjacent (cells row mask)) else Gap
    -- each is available: a shuttle belt needs its lowered shuttle, the lift belt basement height
    ∷ both (set (needed_slots row mask)) (when (lift_named row mask) at_basement) else NotAvailable
    -- the end of the span toward d is free
    ∷ free (end toward (step row size) (cells row mask)) else NotFree
    -- in row 1 the number of occupied cells in the span is even
    ∷ when (eqb row 1) (even (cells row mask)) else OddCount
    ∷ []
clauses (Shuttles side mask orientation toward) =
    -- at least one row
    fact (not (is_empty (rows_of mask))) else NothingNamed
    -- no gap
    ∷ fact (adjacent (rows_of mask)) else Gap
    -- each has a shuttle in that orientation
    ∷ set (map (slot side orientation) (rows_of mask)) else NotAvailable
    -- if lowered and row 1 is named, an even number of that shuttle's two cells is occupied
    ∷ when (eqb orientation lowered && bit mask 0) (even (place side 1)) else OddCount
    -- a next row toward d exists and has no shuttle in that orientation
    ∷ both (fact (not (is_empty (ahead toward mask)))) (free (map (slot side orientation) (ahead toward mask))) else NotFree
    ∷ []
clauses (Tilt side row orientation) =
    let down = eqb orientation lowered in
    -- from lowered, all three of the side are lowered; from tilted, a tilted one is there
    set (cond down (slots side lowered) (slot side tilted row ∷ [])) else NotAvailable
    -- from lowered, the position's cells are free; from tilted, no lowered one is there
    ∷ free (cond down (place side row) (slot side lowered row ∷ [])) else cond down CellsNotFree NotFree
    ∷ []
clauses (Lift height) =
    -- the height differs
    no (height_is height) else SameHeight
    -- leaving the basement, cells 11 and 12 are free, or the cells on either side each hold an even number of occupied cells
    ∷ either (no at_basement) (either (free lift_cells) (both (even left_of_lift) (even right_of_lift))) else OddCount
    ∷ []
clauses Rotate =
    -- at rotation height
    height_is rotation else NotAtRotation
    -- with its six cells free
    ∷ free turning_cells else CellsNotFree
    ∷ []

-- the conditions alone
abbrev pub conditions : Instruction → List Test
conditions i = map test (clauses i)

unfoldable pub allowed : Instruction → Bits → Bool
allowed i f = well_formed i && all_hold (conditions i) f

-- ---- what an allowed one changes

abbrev pub changes : Instruction → List Change
-- the span's cells shift toward d; cells left behind are free
changes (Belts row mask toward size) = shift toward (step row size) (map one (cells row mask))
-- the slots shift by one row; lowered shuttles take their cars along
changes (Shuttles side mask orientation toward) =
    shift toward 1 (map (λ row. one (slot side orientation row)) (rows_moved toward mask))
    ++ cond (eqb orientation lowered) (shift toward 1 (map (place side) (rows_moved toward mask))) []
-- the shuttle has the other orientation
changes (Tilt side row orientation) =
    slot side orientation row ≔ fact false
    ∷ slot side (1 - orientation) row ≔ fact true
    ∷ []
-- leaving the basement, the raised lift has a car if both cells are occupied, and the two cells become free;
-- arriving, both cells take what is on the raised lift, which becomes free
changes (Lift height) =
    height_low ≔ fact (bit height 0)
    ∷ height_high ≔ fact (bit height 1)
    ∷ raised_car ≔ cond (eqb height basement) (fact false) (choose at_basement (set lift_cells) (set (raised_car ∷ [])))
    ∷ map (λ k. k ≔ cond (eqb height basement) (set (raised_car ∷ [])) (choose at_basement (fact false) (set (k ∷ [])))) lift_cells
-- the record stays the same
changes Rotate = []

unfoldable pub next_record : Instruction → Bits → Bits
next_record i f = changed (changes i) f
