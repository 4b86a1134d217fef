-- What is promised of the entries for drawings, of a record and, where `w` is true, of what is set apart. Proved in proofs/Promises.antt. Assumes nothing.
use Rattle.std.specs.Prelude.{◌≡◌, ◌↔◌, ◌⊎◌, Bool, true, false, List, ℕ, ◌/◌, ◌%◌, ◌≤◌, ◌<◌, length}
use Rattle.std.specs.declared.result.Result.TheVariants.{Err}
use Rattle.bits.specs.Bits.{bit}
use Rattle.drawing.specs.declared.Unread.TheVariants.{BadLine, Unsound}
use Rattle.drawing.specs.Drawing.{drawn, has_drawing, writing_drawing}
use Rattle.drawing.specs.Reading.{reading}
use Rattle.drawing_c.specs.Entries.{written_number, written_size, drawn_into, found_number, found_place, read_into}

-- an entry that refuses leaves the room as it was
abbrev pub DrawingEntryUntouched : Type 0
DrawingEntryUntouched =
    ((w : Bool) (r : ℕ) (room : List ℕ) → ((drawn_into w r room).says % 256 ≡ 0 → ⊥) → (drawn_into w r room).leaves ≡ room)
    × ((w : Bool) (text room : List ℕ) → ((read_into w text room).says % 256 ≡ 0 → ⊥) → (read_into w text room).leaves ≡ room)

-- what writing says reads back: its number, no place, and how many bytes are written
abbrev pub WrittenReadsBack : Type 0
WrittenReadsBack =
    (w : Bool) (r : ℕ) (room : List ℕ)
    → let n = (drawn_into w r room).says in
    let d = (writing_drawing w r room).says in
    (n % 256 ≡ written_number d) × (n / 256 % 256 ≡ 255) × (n / 65536 ≡ written_size d)

-- what reading a drawing says, in room for a number, reads back: its number, and its place
abbrev pub FoundReadsBack : Type 0
FoundReadsBack =
    (w : Bool) (text room : List ℕ) → 8 ≤ length room
    → let n = (read_into w text room).says in
    (n % 256 ≡ found_number (reading w text)) × (n / 256 ≡ found_place (reading w text))

-- the numbers that each returns, and the places: a line, or 6 past the last, with 41, and none with any other
abbrev pub DrawingNumbersReturned : Type 0
DrawingNumbersReturned =
    ((w : Bool) (r : ℕ) (room : List ℕ) → let n = (drawn_into w r room).says % 256 in (n ≡ 0) ⊎ (n ≡ 15) ⊎ (n ≡ 17))
    × ((w : Bool) (text room : List ℕ)
    → let n = (read_into w text room).says in
    ((n % 256 ≡ 41) × (n / 256 < 7)) ⊎ (((n % 256 ≡ 0) ⊎ (n % 256 ≡ 15) ⊎ (n % 256 ≡ 17)) × (n / 256 ≡ 255)))

-- of a drawing that is read, in room for a number, 41 with a line says exactly that this line is the first bad one, and 15 exactly that
-- nothing sound is drawn
abbrev pub FoundExactly : Type 0
FoundExactly =
    (w : Bool) (text : List ℕ) (room : List ℕ) → 8 ≤ length room
    → let n = (read_into w text room).says in
    ((p : ℕ) → ((n % 256 ≡ 41) × (n / 256 ≡ p)) ↔ (reading w text ≡ Err (BadLine p))) × ((n % 256 ≡ 15) ↔ (reading w text ≡ Err Unsound))

-- of a number that is drawn, 15 says exactly that it has no drawing, and 17 exactly that it has one and the room is shorter
abbrev pub WrittenExactly : Type 0
WrittenExactly =
    (w : Bool) (r : ℕ) (room : List ℕ)
    → let n = (drawn_into w r room).says in
    ((n % 256 ≡ 15) ↔ (has_drawing w r ≡ false)) × ((n % 256 ≡ 17) ↔ ((has_drawing w r ≡ true) × (length room < length (drawn w (bit r)))))
