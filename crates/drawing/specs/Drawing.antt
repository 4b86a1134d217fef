-- Document 02's floor on paper: a record as six lines of text; and what is set apart, in a second drawing of six such lines. What is given
-- `w` is of both: `false` of a record, `true` of what is set apart. Assumes nothing.
use Rattle.std.specs.Prelude.{◌≡◌, Bool, true, false, cond, List, [], ◌∷◌, ◌++◌, map, ℕ, ◌+◌, ◌*◌, ◌^◌, eqb, ltb, length, drop}
use Rattle.bits.specs.Bits.{Bits, bit, digit}
use Rattle.bits.specs.Places.{from, join}
use Rattle.floor.specs.Floor.{row_cells, left, right, lowered, tilted, slot, raised_car, height_low, height_high, street, rotation, drive_in, drive_out}
use Rattle.floor.specs.Sound.{sound}
use Rattle.codec.specs.Text.{ascii}
use Rattle.std.specs.declared.result.Result.{Result}
use Rattle.std.specs.declared.result.Result.TheVariants.{Ok, Err}
use Rattle.drawing.specs.declared.Unwritten.{Unwritten}
use Rattle.drawing.specs.declared.Unwritten.TheVariants.{HasNone, NoRoom}

-- ---- the lines

-- the mark of a cell: `#` occupied, or `x` set apart; `.` where it isn't
abbrev pub mark : Bool → Bool → ℕ
mark w true = cond w 120 35
mark w false = 46

-- the letter of a shuttle's position, by which of its slots are occupied or set apart, lowered and tilted: `L`, `T`, `B` for both, `-` for none
abbrev pub letter : Bool → Bool → ℕ
letter true true = 66
letter true false = 76
letter false true = 84
letter false false = 45

-- each line ends in one line feed
abbrev pub line_feed : ℕ
line_feed = 10

abbrev pub ended_line : List ℕ → List ℕ
ended_line s = s ++ (line_feed ∷ [])

-- a row's line: the marks of its cells
unfoldable pub floor_line : Bool → ℕ → Bits → List ℕ
floor_line w row f = ended_line (map (λ k. mark w (f k)) (row_cells row))

-- a side's line: the letter of each row
unfoldable pub shuttle_line : ℕ → Bits → List ℕ
shuttle_line side f = ended_line (map (λ row. letter (f (slot side lowered row)) (f (slot side tilted row))) (from 1 3))

-- the name of a height
abbrev pub height_name : ℕ → List ℕ
height_name h = cond (eqb h street) (ascii "street") (cond (eqb h rotation) (ascii "rotation") (ascii "basement"))

-- the word for a car on the raised lift; for the drive that is under way: 1 in, 2 out
abbrev pub car_word : Bool → List ℕ
car_word car = cond car (ascii " car") []

abbrev pub drive_word : ℕ → List ℕ
drive_word drive = cond (eqb drive 1) (ascii " in") (cond (eqb drive 2) (ascii " out") [])

-- the lift's height on a record, and the drive that is under way
abbrev pub drawn_height : Bits → ℕ
drawn_height f = digit (f height_low) + 2 * digit (f height_high)

abbrev pub drive_of : Bits → ℕ
drive_of f = cond (f drive_in) 1 (cond (f drive_out) 2 0)

-- the lift's line: its height, then whether there is a car, then the drive
abbrev pub lift_words : ℕ → Bool → ℕ → List ℕ
lift_words h car drive = ended_line (height_name h ++ (car_word car ++ drive_word drive))

unfoldable pub lift_line : Bits → List ℕ
lift_line f = lift_words (drawn_height f) (f raised_car) (drive_of f)

-- where it is set apart, `lift`, else `-`
abbrev pub apart_words : Bool → List ℕ
apart_words b = ended_line (cond b (ascii "lift") (ascii "-"))

-- the last line
unfoldable pub last_line : Bool → Bits → List ℕ
last_line w f = cond w (apart_words (f raised_car)) (lift_line f)

-- ---- the drawing

-- its six lines: three of the floor, the shuttles of the left and of the right, the lift
abbrev pub drawing_lines : Bool → Bits → List (List ℕ)
drawing_lines w f = floor_line w 1 f ∷ floor_line w 2 f ∷ floor_line w 3 f ∷ shuttle_line left f ∷ shuttle_line right f ∷ last_line w f ∷ []

-- one after the other
unfoldable pub drawn : Bool → Bits → List ℕ
drawn w f = join (drawing_lines w f)

-- which numbers have one: sound records, and of what is set apart those of the 53 parts
abbrev pub has_drawing : Bool → ℕ → Bool
has_drawing w r = cond w (ltb r (2 ^ 53)) (sound r)

-- ---- a number written as its drawing

-- what a call that writes says, how many bytes or why none, and what it leaves in the room
pub record DrawingWriting : Type 0 where
  pub says : Result ℕ Unwritten
  pub leaves : List ℕ

-- what it says is said, and what it leaves is left
abbrev pub LeavesDrawing : DrawingWriting → Result ℕ Unwritten → List ℕ → Type 0
LeavesDrawing w r room = (r ≡ w.says) × (room ≡ w.leaves)

-- refused, and nothing written
abbrev pub unwritten : Unwritten → List ℕ → DrawingWriting
unwritten why room = record { says = Err why; leaves = room }

-- a number that has none first; then exactly if the room is shorter than the text there is no room; bytes past the text keep their values
unfoldable pub writing_drawing : Bool → ℕ → List ℕ → DrawingWriting
writing_drawing w r room =
    let text = drawn w (bit r) in
    cond (has_drawing w r)
    (cond (ltb (length room) (length text)) (unwritten NoRoom room)
    (record { says = Ok (length text); leaves = text ++ drop (length text) room }))
    (unwritten HasNone room)
