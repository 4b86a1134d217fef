-- What is promised of the service panel's entries. Of the plain station's, station_c's promises hold, since they have its contracts. Proved
-- in proofs/Promises.antt. Assumes nothing.
use Rattle.std.specs.Prelude.{◌≡◌, List, ℕ, ◌/◌, ◌%◌, ◌≤◌, true, length}
use Rattle.bits.specs.Bits.{bit}
use Rattle.floor.specs.Sound.{sound}
use Rattle.answers.specs.Answers.{OfTable}
use Rattle.plain.specs.Walks.{walked}
use Rattle.panel_c.specs.Entries.{explaining, next_into, walking}

-- an entry that refuses leaves the room as it was
abbrev pub PanelEntryUntouched : Type 0
PanelEntryUntouched =
    ((r : ℕ) (five : List ℕ) (c : ℕ) (room : List ℕ) → ((explaining r five c room).says % 256 ≡ 0 → ⊥) → (explaining r five c room).leaves ≡ room)
    × ((r : ℕ) (five room : List ℕ) → ((next_into r five room).says % 256 ≡ 0 → ⊥) → (next_into r five room).leaves ≡ room)
    × ((r : ℕ) (room : List ℕ) → ((walking r room).says % 256 ≡ 0 → ⊥) → (walking r room).leaves ≡ room)

-- the number that an entry returns is always one of the table's
abbrev pub PanelNumbersInTable : Type 0
PanelNumbersInTable =
    ((r : ℕ) (five : List ℕ) (c : ℕ) (room : List ℕ) → OfTable ((explaining r five c room).says % 256))
    × ((r : ℕ) (five room : List ℕ) → OfTable ((next_into r five room).says % 256))
    × ((r : ℕ) (room : List ℕ) → OfTable ((walking r room).says % 256))

-- how many cars there are reads back from what the entry says
abbrev pub CarsReadBack : Type 0
CarsReadBack = (r : ℕ) (room : List ℕ) → 31 ≤ length room → sound r ≡ true → (walking r room).says / 65536 ≡ length (walked (bit r))
