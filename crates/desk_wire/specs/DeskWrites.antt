-- The bytes of a desk's message, and what writing leaves in the lent room. Assumes nothing.
use Rattle.std.specs.Prelude.{Bool, true, false, cond, List, [], ◌∷◌, ◌++◌, ℕ, ◌+◌, ltb, eqb, length}
use Rattle.codec.specs.Bytes.{little_endian}
use Rattle.answers.specs.declared.Answer.TheVariants.{UnknownKind, BadField, TooMany}
use Rattle.answers.specs.Answers.{nowhere}
use Rattle.wire.specs.Kinds.{kind_of}
use Rattle.wire.specs.Writes.{Writing, nothing_written, put, writing_message, one_form}
use Rattle.desk_wire.specs.Shapes.{Shape, shaped_body}
use Rattle.desk_wire.specs.DeskKinds.{shapes_known}
use Rattle.desk_wire.specs.DeskReads.{DeskMessage, of_station, shaped, most_answered}

-- a message of this shape in bytes: its length, which counts what follows it, its kind, its body
abbrev pub shaped_bytes : Shape → List ℕ → List (List ℕ) → List ℕ
shaped_bytes k ns xs = little_endian 2 (2 + length (shaped_body k ns xs)) ++ (little_endian 2 k.number ++ shaped_body k ns xs)

-- writing one of this shape: 4 where something is out of its range, 5 where it would be longer than a message can be, 17
unfoldable pub writing_shape : ℕ → Shape → List ℕ → List (List ℕ) → List ℕ → Writing
writing_shape most k ns xs room =
    cond (k.ranged ns xs)
    (cond (ltb most (2 + length (shaped_body k ns xs))) (nothing_written TooMany room) (put (shaped_bytes k ns xs) room))
    (nothing_written (BadField nowhere) room)

-- writing one of a kind: 3 where no shape is of this kind
abbrev pub writing_shaped : ℕ → List Shape → ℕ → List ℕ → List (List ℕ) → List ℕ → Writing
writing_shaped most [] kind ns xs room = nothing_written UnknownKind room
writing_shaped most (k ∷ shapes) kind ns xs room =
    cond (eqb kind k.number) (writing_shape most k ns xs room) (writing_shaped most shapes kind ns xs room)

-- a kind is that of one of these shapes
abbrev pub is_shaped : List Shape → ℕ → Bool
is_shaped [] kind = false
is_shaped (k ∷ shapes) kind = cond (eqb kind k.number) true (is_shaped shapes kind)

-- writing any message; the station's answers are written by the desk's shape of that kind alone
abbrev pub writing_with : ℕ → List Shape → DeskMessage → List ℕ → Writing
writing_with most shapes (of_station m) room = cond (is_shaped shapes (kind_of m.what)) (nothing_written UnknownKind room) (writing_message m room)
writing_with most shapes (shaped kind ns xs) room = writing_shaped most shapes kind ns xs room

-- the library's writer
unfoldable pub writing_desk : DeskMessage → List ℕ → Writing
writing_desk m room = writing_with most_answered shapes_known m room

-- the one form of a message: the station's, or as it is
abbrev pub desk_one_form : DeskMessage → DeskMessage
desk_one_form (of_station m) = of_station (one_form m)
desk_one_form (shaped kind ns xs) = shaped kind ns xs
