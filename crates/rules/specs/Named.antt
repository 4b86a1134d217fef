-- What the numbers of an instruction name: belts, shuttle rows, directions, and spans of places that shift. Assumes nothing.
use Rattle.std.specs.Prelude.{Bool, false, cond, ◌&&◌, List, [], ◌∷◌, ◌++◌, map, ℕ, ◌+◌, ◌-◌, eqb, length, take, drop, replicate}
use Rattle.bits.specs.Bits.{bit}
use Rattle.bits.specs.Places.{join, named}
use Rattle.floor.specs.Floor.{belt_cells, belt_slots, lift_belt}
use Rattle.floor.specs.Tests.{Test, fact, set, Change, ◌≔◌}

-- toward higher columns or rows
abbrev pub higher : ℕ → Bool
higher toward = eqb toward 1

-- ---- belts

-- the cells of the belts that a mask names, and the lowered slots that those belts need
abbrev pub cells : ℕ → ℕ → List ℕ
cells row mask = join (named mask (belt_cells row))

abbrev pub needed_slots : ℕ → ℕ → List ℕ
needed_slots row mask = join (named mask (belt_slots row))

-- the lift's belt is among them
abbrev pub lift_named : ℕ → ℕ → Bool
lift_named row mask = eqb row 1 && bit mask lift_belt

-- by how many cells a belt move shifts: a full move in row 1 by two
abbrev pub step : ℕ → ℕ → ℕ
step row size = cond (eqb row 1 && eqb size 1) 2 1

-- the last n of a span, toward d
abbrev pub end : ℕ → ℕ → List ℕ → List ℕ
end toward n ks = cond (higher toward) (drop (length ks - n) ks) (take n ks)

-- ---- shuttles

-- the rows that a mask names
abbrev pub rows_of : ℕ → List ℕ
rows_of mask = named mask (1 ∷ 2 ∷ 3 ∷ [])

-- the row next to a row toward d, if there is one
abbrev pub onward : ℕ → ℕ → List ℕ
onward toward row =
    cond (higher toward) (cond (eqb row 3) [] ((row + 1) ∷ []))
    (cond (eqb row 1) [] ((row - 1) ∷ []))

-- the row that a span of rows moves into, if there is one
abbrev pub ahead : ℕ → ℕ → List ℕ
ahead toward mask = join (map (onward toward) (end toward 1 (rows_of mask)))

-- a span of rows with the row that it moves into, in ascending order
abbrev pub rows_moved : ℕ → ℕ → List ℕ
rows_moved toward mask = cond (higher toward) (rows_of mask ++ ahead toward mask) (ahead toward mask ++ rows_of mask)

-- ---- shifts

-- each bit of the first place is given the first test, each of the second place the second, and so on
abbrev pub assign : List (List ℕ) → List Test → List Change
assign [] ts = []
assign (ks ∷ kss) [] = []
assign (ks ∷ kss) (t ∷ ts) = map (λ k. k ≔ t) ks ++ assign kss ts

-- the contents of the places of a span shift toward d by n; places left behind are free.
-- A place is one bit or two, and holds a car if each is 1: so a car of two cells becomes one cell, and the reverse
abbrev pub shift : ℕ → ℕ → List (List ℕ) → List Change
shift toward n kss =
    assign kss
    (cond (higher toward) (replicate n (fact false) ++ map set kss)
    (drop n (map set kss) ++ replicate n (fact false)))

-- a place of one bit
abbrev pub one : ℕ → List ℕ
one k = k ∷ []
