-- The cells of the belts that a move names, one by one, and the rows. Assumes nothing.
use Rattle.std.specs.Prelude.{Bool, false, cond, not, ◌&&◌, ℕ, ◌+◌, ◌-◌, eqb}
use Rattle.bits.specs.Bits.{bit}
use Rattle.floor.specs.declared.Belt.{Belt}
use Rattle.std.specs.declared.option.Option.{Option}
use Rattle.std.specs.declared.option.Option.TheVariants.{Some, None}
use Rattle.floor.specs.Floor.{belt_of}
use Rattle.rules.specs.Named.{higher}

-- the belt is in the row, and the mask names it
abbrev pub belt_named : ℕ → ℕ → Option Belt → Bool
belt_named row mask (Some b) = eqb b.row row && bit mask b.number
belt_named row mask None = false

-- the cell is on such a belt
abbrev pub cell_named : ℕ → ℕ → ℕ → Bool
cell_named row mask k = belt_named row mask (belt_of k)

-- the mask names a row
unfoldable pub row_named : ℕ → ℕ → Bool
row_named mask row = not (eqb row 0) && bit mask (row - 1)

-- the row behind, seen toward d; 0 or 4, where no row is, at the wall
unfoldable pub row_behind : ℕ → ℕ → ℕ
row_behind toward row = cond (higher toward) (row - 1) (row + 1)
