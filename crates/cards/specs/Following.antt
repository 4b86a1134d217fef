-- How numbers follow cars: from which place each place takes its number when an instruction succeeds, and what a car event does.
-- Beside it, in terms of cars, where each car goes. Assumes nothing.
use Rattle.std.specs.Prelude.{Bool, cond, ◌||◌, List, [], ◌∷◌, ◌++◌, map, ℕ, ◌+◌, ◌-◌, eqb, ltb, get_or}
use Rattle.bits.specs.Bits.{Bits}
use Rattle.bits.specs.Places.{elem, join}
use Rattle.floor.specs.Floor.{place, lowered, raised_car, lift_cells, basement, drive_in}
use Rattle.floor.specs.Tests.{holds, at_basement}
use Rattle.floor.specs.Cars.{Car, pair, single, raised}
use Rattle.rules.specs.declared.Instruction.{Instruction}
use Rattle.rules.specs.declared.Instruction.TheVariants.{Belts, Shuttles, Tilt, Lift, Rotate}
use Rattle.rules.specs.declared.Event.{Event}
use Rattle.rules.specs.declared.Event.TheVariants.{BeginIn, BeginOut, EndDone, EndNotDone}
use Rattle.rules.specs.Named.{higher, cells, step, rows_of, onward}
use Rattle.cars.specs.Lists.{anchor}
use Rattle.cards.specs.Cards.{Numbers}

-- no place: nothing comes from there
abbrev pub no_source : ℕ
no_source = 64

-- the first place of some
abbrev pub first_place : List ℕ → ℕ
first_place ks = get_or ks 0 no_source

-- where the number of a car stands that is on the lift's cells, and of one that is at a shuttle's position
abbrev pub lift_number_at : ℕ
lift_number_at = first_place lift_cells

abbrev pub on_shuttle : ℕ → ℕ → ℕ
on_shuttle side row = cond (eqb row no_source) no_source (first_place (place side row))

-- ---- the numbers after an instruction

-- a place takes the number from another
pub data Taking : Type 0 where
  ◌⟵◌ : ℕ → ℕ → Taking

infix 80 ◌⟵◌
-- the place or row that is n steps behind k, seen toward d, if it is one of ks; else nowhere
abbrev pub source_behind : ℕ → ℕ → List ℕ → ℕ → ℕ
source_behind toward n ks k =
    let j = cond (higher toward) (cond (ltb k n) no_source (k - n)) (k + n) in
    cond (elem j ks) j no_source

-- the rows that a mask names, and those next to them toward d
abbrev pub rows_touched : ℕ → ℕ → List ℕ
rows_touched toward mask = rows_of mask ++ join (map (onward toward) (rows_of mask))

-- what an instruction's success makes of the numbers, where `low` says that the lift is in the basement
abbrev pub takings : Instruction → Bool → List Taking
-- each cell of the span takes the number of the cell behind it in the span; cells left behind have none
takings (Belts row mask toward size) low = map (λ k. k ⟵ source_behind toward (step row size) (cells row mask) k) (cells row mask)
-- lowered shuttles take the numbers of their cars along: each row takes that of the named row behind it
takings (Shuttles side mask orientation toward) low =
    cond (eqb orientation lowered)
    (map (λ row. on_shuttle side row ⟵ on_shuttle side (source_behind toward 1 (rows_of mask) row)) (rows_touched toward mask))
    []
takings (Tilt side row orientation) low = []
-- arriving in the basement, the number goes from the raised lift to its cells; leaving it, the other way
takings (Lift height) low =
    cond (eqb height basement) (lift_number_at ⟵ raised_car ∷ raised_car ⟵ no_source ∷ [])
    (cond low (raised_car ⟵ lift_number_at ∷ lift_number_at ⟵ no_source ∷ []) [])
takings Rotate low = []

-- the number at a place; nowhere there is none
abbrev pub number_at : Numbers → ℕ → ℕ
number_at n k = cond (eqb k no_source) 0 (n k)

-- the numbers with all takings made at once
unfoldable pub numbers_taken : List Taking → Numbers → Numbers
numbers_taken [] n k = n k
numbers_taken (j ⟵ s ∷ ts) n k = cond (eqb j k) (number_at n s) (numbers_taken ts n k)

-- the numbers after the instruction i has succeeded on the record f
unfoldable pub numbers_after : Instruction → Bits → Numbers → Numbers
numbers_after i f n = numbers_taken (takings i (holds at_basement f)) n

-- ---- the numbers after a car event

-- what a car event makes of the numbers, but for the one that a begin brings: a drive-in that ends and is done takes its number to the
-- raised lift, where a drive-out that is done leaves none, since then none waits; with any end none waits
abbrev pub event_takings : Event → List Taking
event_takings BeginIn = []
event_takings BeginOut = []
event_takings EndDone = raised_car ⟵ drive_in ∷ drive_in ⟵ no_source ∷ []
event_takings EndNotDone = drive_in ⟵ no_source ∷ []

-- the numbers with c waiting
abbrev pub waiting : ℕ → Numbers → Numbers
waiting c n k = cond (eqb drive_in k) c (n k)

-- the numbers after a car event, where c is the number that a begin of a drive-in brings; no other event looks at it
unfoldable pub numbers_driven : Event → ℕ → Numbers → Numbers
numbers_driven BeginIn c n = waiting c n
numbers_driven BeginOut c n = n
numbers_driven EndDone c n = numbers_taken (event_takings EndDone) n
numbers_driven EndNotDone c n = numbers_taken (event_takings EndNotDone) n

-- ---- where cars go

-- a car n cells further toward d
abbrev pub along : ℕ → ℕ → Car → Car
along toward n (pair c) = pair (cond (higher toward) (c + n) (c - n))
along toward n (single c) = single (cond (higher toward) (c + n) (c - n))
along toward n raised = raised

-- the car at a shuttle's position
abbrev pub shuttle_car : ℕ → ℕ → Car
shuttle_car side row = cond (eqb row 1) (pair (on_shuttle side row)) (single (on_shuttle side row))

-- a car at the position of one of these rows goes to that of the next row toward d
abbrev pub by_shuttle : ℕ → ℕ → List ℕ → Car → Car
by_shuttle side toward [] x = x
by_shuttle side toward (row ∷ rows) x =
    cond (eqb (on_shuttle side row) (anchor x)) (shuttle_car side (cond (higher toward) (row + 1) (row - 1))) (by_shuttle side toward rows x)

-- where a car goes when an instruction succeeds
abbrev pub car_moved : Instruction → Car → Car
-- a car on the belts goes along with them
car_moved (Belts row mask toward size) x = cond (elem (anchor x) (cells row mask)) (along toward (step row size) x) x
-- a car on one of the lowered shuttles goes to the next row
car_moved (Shuttles side mask orientation toward) x = cond (eqb orientation lowered) (by_shuttle side toward (rows_of mask) x) x
car_moved (Tilt side row orientation) x = x
-- a car on the lift goes up or down with it
car_moved (Lift height) x =
    cond (eqb lift_number_at (anchor x) || eqb raised_car (anchor x)) (cond (eqb height basement) (pair lift_number_at) raised) x
car_moved Rotate x = x
