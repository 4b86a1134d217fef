-- The floor of document 01, with document 02's drives: which bit of the record stands for what. Definitions elsewhere go by these names.
-- Numbers are written again only for the ends of the rows, where cars are laid out; in whole images, as the start record's; and in masks
-- that are cited by private functions alone. Assumes nothing.
use Rattle.std.specs.Prelude.{cond, List, [], ◌∷◌, ◌++◌, ℕ, ◌+◌, ◌*◌, eqb, ltb}
use Rattle.bits.specs.Places.{from}
use Rattle.floor.specs.declared.Belt.{Belt}
use Rattle.std.specs.declared.option.Option.{Option}
use Rattle.std.specs.declared.option.Option.TheVariants.{Some, None}

-- ---- cells: the bits 0 to 39

-- row 1 has twenty half cells, rows 2 and 3 ten cells each
abbrev pub row_cells : ℕ → List ℕ
row_cells row = cond (eqb row 1) (from 0 20) (cond (eqb row 2) (from 20 10) (from 30 10))

-- the belts of a row from the left, each by its cells: row 1 has the left shuttle's, the left, the lift's, the right and the
-- right shuttle's, rows 2 and 3 the left shuttle's, one of eight cells and the right shuttle's
abbrev pub belt_cells : ℕ → List (List ℕ)
belt_cells row =
    cond (eqb row 1) (from 0 2 ∷ from 2 9 ∷ from 11 2 ∷ from 13 5 ∷ from 18 2 ∷ [])
    (cond (eqb row 2) (from 20 1 ∷ from 21 8 ∷ from 29 1 ∷ [])
    (from 30 1 ∷ from 31 8 ∷ from 39 1 ∷ []))

-- a belt by its row, and its number in the row from the left, from 0
abbrev pub belt : ℕ → ℕ → Option Belt
belt row number = Some (record { row = row; number = number })

-- the belt under a cell
unfoldable pub belt_of : ℕ → Option Belt
belt_of k =
    cond (ltb k 2) (belt 1 0)
    (cond (ltb k 11) (belt 1 1)
    (cond (ltb k 13) (belt 1 2)
    (cond (ltb k 18) (belt 1 3)
    (cond (ltb k 20) (belt 1 4)
    (cond (ltb k 21) (belt 2 0)
    (cond (ltb k 29) (belt 2 1)
    (cond (ltb k 30) (belt 2 2)
    (cond (ltb k 31) (belt 3 0)
    (cond (ltb k 39) (belt 3 1)
    (cond (ltb k 40) (belt 3 2)
    None))))))))))

-- ---- shuttles: the bits 40 to 51

-- the two sides, and how a shuttle stands
abbrev pub left : ℕ
left = 0

abbrev pub right : ℕ
right = 1

abbrev pub lowered : ℕ
lowered = 0

abbrev pub tilted : ℕ
tilted = 1

-- the slot of a shuttle: lowered ones in left rows 1 to 3, right rows 1 to 3, then tilted ones in the same order
abbrev pub slot : ℕ → ℕ → ℕ → ℕ
slot side orientation row = 39 + orientation * 6 + side * 3 + row

-- the cells at a shuttle's position
abbrev pub place : ℕ → ℕ → List ℕ
place side row = cond (eqb row 1) (from (side * 18) 2) (cond (eqb row 2) (from (20 + side * 9) 1) (from (30 + side * 9) 1))

-- of each belt of a row, the lowered slot that it needs, if it is a shuttle's
abbrev pub belt_slots : ℕ → List (List ℕ)
belt_slots row =
    cond (eqb row 1) ((slot left lowered 1 ∷ []) ∷ [] ∷ [] ∷ [] ∷ (slot right lowered 1 ∷ []) ∷ [])
    ((slot left lowered row ∷ []) ∷ [] ∷ (slot right lowered row ∷ []) ∷ [])

-- ---- the lift: the bits 52 to 54

-- a car is on the raised lift
abbrev pub raised_car : ℕ
raised_car = 52

-- the low and the high digit of its height
abbrev pub height_low : ℕ
height_low = 53

abbrev pub height_high : ℕ
height_high = 54

-- its three heights
abbrev pub street : ℕ
street = 0

abbrev pub rotation : ℕ
rotation = 1

abbrev pub basement : ℕ
basement = 2

abbrev pub lift : List ℕ
lift = raised_car ∷ height_low ∷ height_high ∷ []

-- its number among the belts of row 1, and its cells there
abbrev pub lift_belt : ℕ
lift_belt = 2

abbrev pub lift_cells : List ℕ
lift_cells = from 11 2

-- the cells of row 1 on either side of it
abbrev pub left_of_lift : List ℕ
left_of_lift = from 0 11

abbrev pub right_of_lift : List ℕ
right_of_lift = from 13 7

-- the cells that must be free for it to turn
abbrev pub turning_cells : List ℕ
turning_cells = from 8 3 ++ from 13 3

-- ---- drives: the bits 55 and 56

-- a car is being driven into the lift, or out of it
abbrev pub drive_in : ℕ
drive_in = 55

abbrev pub drive_out : ℕ
drive_out = 56

abbrev pub drives : List ℕ
drives = drive_in ∷ drive_out ∷ []

-- ---- the bits 57 to 63, which stand for nothing
abbrev pub spare : List ℕ
spare = from 57 7
