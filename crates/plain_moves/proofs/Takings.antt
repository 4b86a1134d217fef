-- What each cell and each slot takes when belts, shuttles or a tilt move, as the code goes; and that the rules' changes give the same:
-- computed at every well-formed instruction without a gap and every place. Assumes nothing.
use mathlib.Core.Path.{◌≡◌}
use mathlib.Core.Bool.{Bool, true, false, cond, ◌&&◌}
use mathlib.Core.List.{List, [], ◌∷◌}
use Prim.Native.Nat.{ℕ, zero, suc, ◌+◌, ◌-◌}
use lib.Dec.{T, eqb}
use Rattle.std.specs.declared.option.Option.{Option}
use Rattle.std.specs.declared.option.Option.TheVariants.{Some, None}
use Rattle.bits.specs.Places.{elem, from, adjacent}
use Rattle.bits.specs.Search.{every}
use Rattle.bits.proofs.Cases.{under}
use Rattle.floor.specs.Floor.{belt_of, lowered, slot, place}
use Rattle.floor.specs.Tests.{Change}
use Rattle.rules.specs.declared.Instruction.{Instruction}
use Rattle.rules.specs.declared.Instruction.TheVariants.{Belts, Shuttles, Tilt, Lift, Rotate}
use Rattle.rules.specs.Named.{cells, step, rows_of}
use Rattle.rules.specs.Rules.{well_formed, changes}
use Rattle.rules.proofs.Every.{everywhere, each}
use Rattle.rules.specs.Cells.{cell_named, row_named, row_behind}
use Rattle.plain_moves.specs.Private.{slot_index, cell_behind, row_source, is_row}
use Rattle.plain_moves.proofs.Contents.{Content, told, all, right_at, keeps}

-- ---- what is taken

-- what a place takes that stays as it was
abbrev pub itself : ℕ → Content
itself k = all (k ∷ [])

abbrev pub slot_place : ℕ → ℕ
slot_place j = 40 + j

-- a cell, if there is one, in the span; and a cell after a belt run
abbrev pub span_content : ℕ → ℕ → Option ℕ → Content
span_content row mask None = told false
span_content row mask (Some j) = cond (cell_named row mask j) (itself j) (told false)

unfoldable pub belt_content : ℕ → ℕ → ℕ → ℕ → ℕ → Content
belt_content row mask toward size k = cond (cell_named row mask k) (span_content row mask (cell_behind toward (step row size) k)) (itself k)

-- what a slot takes from the slot of a row, and the slots with the first n rows made so
abbrev pub slot_content : ℕ → ℕ → Option ℕ → Content
slot_content side orientation None = told false
slot_content side orientation (Some row) = itself (slot side orientation row)

unfoldable pub slot_contents : ℕ → ℕ → ℕ → ℕ → ℕ → ℕ → Content
slot_contents side mask orientation toward zero j = itself (slot_place j)
slot_contents side mask orientation toward (suc n) j =
    let r = slot_contents side mask orientation toward n j in
    cond (eqb (slot_index side orientation (suc n)) j) (slot_content side orientation (row_source mask toward (suc n))) r

-- what the cells of a row take from the position of another, and the cells with the first n rows made so
abbrev pub car_content : ℕ → Option ℕ → Content
car_content side None = told false
car_content side (Some row) = all (place side row)

unfoldable pub cell_contents : ℕ → ℕ → ℕ → ℕ → ℕ → Content
cell_contents side mask toward zero k = itself k
cell_contents side mask toward (suc n) k =
    let r = cell_contents side mask toward n k in
    cond (is_row (row_source mask toward (suc n)) (suc n)) r (cond (elem k (place side (suc n))) (car_content side (row_source mask toward (suc n))) r)

-- the slots after a tilt
unfoldable pub tilt_contents : ℕ → ℕ → ℕ → ℕ → Content
tilt_contents side row orientation j =
    cond (eqb (slot_index side (1 - orientation) row) j) (told true) (cond (eqb (slot_index side orientation row) j) (told false) (itself (slot_place j)))

-- ---- all in one test

-- the cells that each element takes, the slots, and what is neither and stays
abbrev pub right_by : List Change → (ℕ → Content) → (ℕ → Content) → Bool
right_by cs x y =
    every 40 (right_at cs 40 (λ k. k) (from 0 40) x)
    && (every 12 (right_at cs 12 slot_place (from 40 12) y)
    && every 5 (λ j. keeps cs (52 + j)))

right_of : Instruction → Bool
right_of (Belts row mask toward size) =
    cond (adjacent (cells row mask)) (right_by (changes (Belts row mask toward size)) (belt_content row mask toward size) (λ j. itself (slot_place j))) true
right_of (Shuttles side mask orientation toward) =
    cond (adjacent (rows_of mask)) (right_by (changes (Shuttles side mask orientation toward))
    (λ k. cond (eqb orientation lowered) (cell_contents side mask toward 3 k) (itself k))
    (slot_contents side mask orientation toward 3)) true
right_of (Tilt side row orientation) = right_by (changes (Tilt side row orientation)) itself (tilt_contents side row orientation)
right_of (Lift height) = true
right_of Rotate = true

all_right_lem : T (everywhere right_of)
unfolding everywhere every belt_of right_of cell_behind row_named row_behind row_source belt_content slot_contents cell_contents tilt_contents
all_right_lem = tt

-- ---- what it says of each

pub belts_right : (row mask toward size : ℕ) → T (well_formed (Belts row mask toward size)) → adjacent (cells row mask) ≡ true
    → T (right_by (changes (Belts row mask toward size)) (belt_content row mask toward size) (λ j. itself (slot_place j)))
unfolding right_of
belts_right row mask toward size w a = under (adjacent (cells row mask)) _ a (each right_of all_right_lem (Belts row mask toward size) w)

pub shuttles_right : (side mask orientation toward : ℕ) → T (well_formed (Shuttles side mask orientation toward)) → adjacent (rows_of mask) ≡ true
    → T (right_by (changes (Shuttles side mask orientation toward))
    (λ k. cond (eqb orientation lowered) (cell_contents side mask toward 3 k) (itself k))
    (slot_contents side mask orientation toward 3))
unfolding right_of
shuttles_right side mask orientation toward w a =
    under (adjacent (rows_of mask)) _ a (each right_of all_right_lem (Shuttles side mask orientation toward) w)

pub tilt_right : (side row orientation : ℕ) → T (well_formed (Tilt side row orientation))
    → T (right_by (changes (Tilt side row orientation)) itself (tilt_contents side row orientation))
unfolding right_of
tilt_right side row orientation w = each right_of all_right_lem (Tilt side row orientation) w
