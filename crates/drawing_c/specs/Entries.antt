-- What the entries for drawings answer a host in C, and what they leave in the room that is lent to them; `w` says of which drawing, as in
-- drawing. Assumes nothing.
use Rattle.std.specs.Prelude.{Bool, cond, List, ◌++◌, ℕ, ◌+◌, ◌*◌, ltb, length, drop}
use Rattle.codec.specs.Bytes.{little_endian}
use Rattle.answers.specs.Answers.{nowhere}
use Rattle.rooms.specs.Rooms.{Entry, no_room}
use Rattle.std.specs.declared.result.Result.{Result}
use Rattle.std.specs.declared.result.Result.TheVariants.{Ok, Err}
use Rattle.drawing.specs.declared.Unwritten.{Unwritten}
use Rattle.drawing.specs.declared.Unwritten.TheVariants.{HasNone, NoRoom}
use Rattle.drawing.specs.declared.Unread.{Unread}
use Rattle.drawing.specs.declared.Unread.TheVariants.{BadLine, Unsound}
use Rattle.drawing.specs.Drawing.{writing_drawing}
use Rattle.drawing.specs.Reading.{reading}

-- what writing says: a number, 0, or 15 for one that has no drawing, or 17 for one that doesn't fit; and how many bytes are written
abbrev pub written_number : Result ℕ Unwritten → ℕ
written_number (Ok size) = 0
written_number (Err HasNone) = 15
written_number (Err NoRoom) = 17

abbrev pub written_size : Result ℕ Unwritten → ℕ
written_size (Ok size) = size
written_size (Err why) = 0

-- as one number: that number, no place, and 65536 times the bytes
abbrev pub written_said : Result ℕ Unwritten → ℕ
written_said w = written_number w + 256 * nowhere + 65536 * written_size w

-- a number is drawn: 15, then 17; the room is left as writing leaves it
unfoldable pub drawn_into : Bool → ℕ → List ℕ → Entry
drawn_into w r room = let d = writing_drawing w r room in record { says = written_said d.says; leaves = d.leaves }

-- what reading says: a number, 0, or 41 where a line is bad, or 15 for a drawing of nothing; and the line, or none
abbrev pub found_number : Result ℕ Unread → ℕ
found_number (Ok r) = 0
found_number (Err (BadLine p)) = 41
found_number (Err Unsound) = 15

abbrev pub found_place : Result ℕ Unread → ℕ
found_place (Ok r) = nowhere
found_place (Err (BadLine p)) = p
found_place (Err Unsound) = nowhere

-- as one number: that number, and 256 times the place
abbrev pub found_said : Result ℕ Unread → ℕ
found_said f = found_number f + 256 * found_place f

-- what reading found is kept: the number's eight bytes, the lowest first, at the start of the room; refused, nothing is written
abbrev pub kept : Result ℕ Unread → List ℕ → List ℕ
kept (Ok r) room = little_endian 8 r ++ drop 8 room
kept (Err why) room = room

unfoldable pub record_kept : Result ℕ Unread → List ℕ → Entry
record_kept f room = record { says = found_said f; leaves = kept f room }

-- a drawing is read: 17 where the room has fewer bytes than a number; then 41 with the first bad line, then 15
unfoldable pub read_into : Bool → List ℕ → List ℕ → Entry
read_into w text room = cond (ltb (length room) 8) (no_room room) (record_kept (reading w text) room)
