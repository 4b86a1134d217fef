-- What the contracts of private functions cite; no public one rests on it. The place from which a place takes its number, as the rules
-- list it, and as the code finds it place by place; that the two are the same is shown in proofs/. Assumes nothing.
use Rattle.std.specs.Prelude.{Bool, cond, not, ◌&&◌, List, [], ◌∷◌, ℕ, ◌+◌, ◌-◌, ◌*◌, eqb, ltb, get_or}
use Rattle.std.specs.Bool.{beq}
use Rattle.std.specs.declared.option.Option.{Option}
use Rattle.std.specs.declared.option.Option.TheVariants.{Some, None}
use Rattle.bits.specs.Bits.{bit}
use Rattle.bits.specs.Search.{every}
use Rattle.floor.specs.Floor.{raised_car, basement, lowered}
use Rattle.rules.specs.Cells.{cell_named, row_named, row_behind}
use Rattle.rules.specs.declared.Instruction.{Instruction}
use Rattle.rules.specs.declared.Instruction.TheVariants.{Belts, Shuttles, Tilt, Lift, Rotate}
use Rattle.rules.specs.Named.{higher, step}
use Rattle.cards.specs.Cards.{Numbers}
use Rattle.cards.specs.Following.{no_source, lift_number_at, number_at, Taking, ◌⟵◌}
use Rattle.cards.specs.Given.{bears, twice_at}
use Rattle.cards.specs.Held.{place_of_element}

-- as the rules list it: its own place where nothing is said of it
unfoldable pub source : List Taking → ℕ → ℕ
source [] k = k
source (j ⟵ s ∷ ts) k = cond (eqb j k) s (source ts k)

-- the place from which a number comes, as the code finds it, and the number that comes from there
abbrev pub place_or_none : Option ℕ → ℕ
place_or_none None = no_source
place_or_none (Some k) = k

abbrev pub number_from : Numbers → Option ℕ → ℕ
number_from n from = number_at n (place_or_none from)

-- ---- belts

-- n cells down, unless that is below 0, or up
unfoldable pub against : ℕ → Bool → ℕ → Option ℕ
against k up n = cond up (cond (ltb k n) None (Some (k - n))) (Some (k + n))

abbrev pub if_named : ℕ → ℕ → Option ℕ → Option ℕ
if_named row mask None = None
if_named row mask (Some j) = cond (cell_named row mask j) (Some j) None

unfoldable pub belt_source : ℕ → ℕ → ℕ → ℕ → ℕ → Option ℕ
belt_source row mask toward size k =
    cond (cell_named row mask k) (if_named row mask (against k (higher toward) (step row size))) (Some k)

-- ---- shuttles

-- the place of the number at a side's position, and the row of the position by that place
unfoldable pub place_at : ℕ → ℕ → ℕ
place_at side row = cond (eqb row 1) (side * 18) (cond (eqb row 2) (20 + side * 9) (30 + side * 9))

unfoldable pub row_at : ℕ → ℕ → Option ℕ
row_at side k =
    cond (eqb k (place_at side 1)) (Some 1) (cond (eqb k (place_at side 2)) (Some 2) (cond (eqb k (place_at side 3)) (Some 3) None))

-- from the row behind if it is named, else from nowhere if the row itself is
abbrev pub from_row : ℕ → ℕ → ℕ → ℕ → Option ℕ → Option ℕ
from_row side mask toward k None = Some k
from_row side mask toward k (Some row) =
    cond (row_named mask (row_behind toward row)) (Some (place_at side (row_behind toward row))) (cond (row_named mask row) None (Some k))

unfoldable pub shuttle_source : ℕ → ℕ → ℕ → ℕ → Option ℕ
shuttle_source side mask toward k = from_row side mask toward k (row_at side k)

-- ---- the lift, and all

-- one place takes its number from another, which is left with none
abbrev pub taken_along : ℕ → ℕ → ℕ → Option ℕ
taken_along from to k = cond (eqb k to) (Some from) (cond (eqb k from) None (Some k))

unfoldable pub lift_source : ℕ → Bool → ℕ → Option ℕ
lift_source height low k =
    cond (eqb height basement) (taken_along raised_car lift_number_at k) (cond low (taken_along lift_number_at raised_car k) (Some k))

unfoldable pub source_of : Instruction → Bool → ℕ → Option ℕ
source_of (Belts row mask toward size) low k = belt_source row mask toward size k
source_of (Shuttles side mask orientation toward) low k = cond (eqb orientation lowered) (shuttle_source side mask toward k) (Some k)
source_of (Tilt side row orientation) low k = Some k
source_of (Lift height) low k = lift_source height low k
source_of Rotate low k = Some k

-- ---- the number that a place is given: of 31 the one at t, or none

abbrev pub given_at : List ℕ → ℕ → Bool → ℕ
given_at ns t here = cond here (cond (ltb t 31) (get_or ns t 0) 0) 0

-- ---- the two tests of numbers

-- a number stands exactly at the places that bear one
unfoldable pub stand_right : ℕ → List ℕ → Bool
stand_right r a = every 42 (λ j. beq (not (eqb (get_or a j 0) 0)) (bears (bit r) (place_of_element j)))

-- an element other than 0 is among those before it
abbrev pub repeats : List ℕ → ℕ → Bool
repeats a j = not (eqb (get_or a j 0) 0) && twice_at a j
