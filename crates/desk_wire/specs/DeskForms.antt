-- What is promised of a desk's messages, in the words of the station's: what was written reads back as what was meant, and bytes that read
-- as a meaning are exactly those that writing it gives. Then what the desk's reader has of the station's. Proved in proofs/.
-- Assumes nothing.
use Rattle.std.specs.Prelude.{◌≡◌, List, [], ◌∷◌, ℕ, ◌≤◌, ◌<◌, ◌^◌}
use Rattle.codec.specs.Bytes.{Bytes}
use Rattle.answers.specs.declared.Answer.TheVariants.{Taken, UnknownKind, BadField}
use Rattle.answers.specs.Answers.{nowhere}
use Rattle.std.specs.declared.result.Result.TheVariants.{Ok}
use Rattle.wire.specs.declared.Frame.TheVariants.{Whole}
use Rattle.wire.specs.Kinds.{kinds_known}
use Rattle.wire.specs.Reads.{length_at, kind_at, read_asked, read_message, message_taken}
use Rattle.wire.specs.Writes.{Writing, writing_message, one_form}
use Rattle.wire_laws.specs.Statements.{MessageTyped}
use Rattle.desk_wire.specs.Shapes.{Shape, InWidths, TailInWidths}
use Rattle.desk_wire.specs.DeskKinds.{shapes_known}
use Rattle.desk_wire.specs.DeskReads.{DeskMessage, of_station, shaped, desk_message_refused, desk_message_taken, frame_up_to, most_length, as_received, read_up_to, read_desk, read_desk_asked}
use Rattle.desk_wire.specs.DeskWrites.{writing_with, writing_desk, desk_one_form}

-- ---- of any messages: how they are written, how they are read, and what is read where one is taken

-- a message that was written reads back as what was meant, whatever stands after it in the room
abbrev pub ReadsBackBy : {M R : Type 0} → (M → Type 0) → (M → List ℕ → Writing) → (List ℕ → R) → (M → ℕ → R) → (M → M) → Type 0
ReadsBackBy {M} Typed write read taken form =
    (m : M) (room : List ℕ) (n : ℕ) → Typed m → (write m room).says ≡ Ok n
    → read (write m room).leaves ≡ taken (form m) n

-- a message that was read is in its one form, and writing it over its bytes changes nothing
abbrev pub OneFormBy : {M R : Type 0} → (M → List ℕ → Writing) → (List ℕ → R) → (M → ℕ → R) → (M → M) → Type 0
OneFormBy {M} write read taken form =
    (s : List ℕ) (m : M) (n : ℕ) → Bytes s → read s ≡ taken m n
    → (form m ≡ m) × (write m s ≡ record { says = Ok n; leaves = s })

-- both hold of the station's messages
abbrev pub StationForms : Type 0
StationForms = ReadsBackBy MessageTyped writing_message read_message message_taken one_form × OneFormBy writing_message read_message message_taken one_form

-- ---- of a desk's, by any table of shapes

-- the fields and entries of a kind as code holds them, by the first shape of that kind
abbrev pub TypedAs : List Shape → ℕ → List ℕ → List (List ℕ) → Type 0
TypedAs [] kind ns xs = Unit {0}
TypedAs (k ∷ shapes) kind ns xs =
    (kind ≡ k.number → InWidths k.fields ns × TailInWidths k.each xs) × ((kind ≡ k.number → ⊥) → TypedAs shapes kind ns xs)

-- a message as code holds it
abbrev pub TypedBy : List Shape → DeskMessage → Type 0
TypedBy shapes (of_station m) = MessageTyped m
TypedBy shapes (shaped kind ns xs) = TypedAs shapes kind ns xs

-- each kind has room in its two bytes
abbrev pub KindsFit : List Shape → Type 0
KindsFit [] = Unit {0}
KindsFit (k ∷ shapes) = (k.number < 2 ^ 16) × KindsFit shapes

-- whatever the shapes are, both hold of the station's messages and of those together
abbrev pub ShapesForms : Type 0
ShapesForms =
    (most : ℕ) (shapes : List Shape) → 43 ≤ most → most < 2 ^ 16 → KindsFit shapes
    → ReadsBackBy (TypedBy shapes) (writing_with most shapes) (read_up_to most kinds_known shapes) desk_message_taken desk_one_form
    × OneFormBy (writing_with most shapes) (read_up_to most kinds_known shapes) desk_message_taken desk_one_form

-- a desk's message that was written reads back as what was meant, whatever stands after it in the room
abbrev pub DeskMessagesReadBack : Type 0
DeskMessagesReadBack = ReadsBackBy (TypedBy shapes_known) writing_desk read_desk desk_message_taken desk_one_form

-- bytes that read as a desk's message are exactly those that writing it gives
abbrev pub DeskMessagesOneForm : Type 0
DeskMessagesOneForm = OneFormBy writing_desk read_desk desk_message_taken desk_one_form

-- ---- the desk's reader

-- on the station's kinds, of the station's lengths, it says what the station's reader says
abbrev pub StationKindsSame : Type 0
StationKindsSame = (s : List ℕ) → length_at s ≤ 43 → kind_at s ≤ 5 → read_desk_asked s ≡ as_received (read_asked s)

-- on kinds up to 12, of its own lengths, it says what the library's says
abbrev pub DeskAskedAlike : Type 0
DeskAskedAlike = (s : List ℕ) → length_at s ≤ most_length → kind_at s ≤ 12 → read_desk_asked s ≡ read_desk s

-- any kind above 12 is unknown to it, whatever its length
abbrev pub DeskAskedUnknown : Type 0
DeskAskedUnknown = (s : List ℕ) (n : ℕ) → frame_up_to most_length s ≡ Whole n → 12 < kind_at s → read_desk_asked s ≡ desk_message_refused UnknownKind n

-- ---- that there are such messages

-- a drive-in begins with the card 7001; an empty record but for one car on the raised lift comes with the card 7002; what is leaving
-- and all cars are asked for; one car is told, in motion from the raised lift to cell 11
abbrev pub DeskMessagesExample : Type 0
DeskMessagesExample =
    (read_desk_asked (6 ∷ 0 ∷ 6 ∷ 0 ∷ 89 ∷ 27 ∷ 0 ∷ 0 ∷ []) ≡ desk_message_taken (shaped 6 (7001 ∷ []) []) 8)
    × (read_desk_asked (23 ∷ 0 ∷ 7 ∷ 0 ∷ 0 ∷ 0 ∷ 0 ∷ 0 ∷ 0 ∷ 0 ∷ 16 ∷ 0 ∷ 0 ∷ 0 ∷ 0 ∷ 0 ∷ 0 ∷ 0 ∷ 0 ∷ 0 ∷ 1 ∷ 90 ∷ 27 ∷ 0 ∷ 0 ∷ [])
    ≡ desk_message_taken (shaped 7 (4503599627370496 ∷ 0 ∷ []) ((7002 ∷ []) ∷ [])) 25)
    × (read_desk_asked (2 ∷ 0 ∷ 9 ∷ 0 ∷ []) ≡ desk_message_taken (shaped 9 [] []) 4)
    × (read_desk_asked (2 ∷ 0 ∷ 10 ∷ 0 ∷ []) ≡ desk_message_taken (shaped 10 [] []) 4)
    × (read_desk (11 ∷ 0 ∷ 138 ∷ 0 ∷ 1 ∷ 89 ∷ 27 ∷ 0 ∷ 0 ∷ 52 ∷ 2 ∷ 11 ∷ 0 ∷ []) ≡ desk_message_taken (shaped 138 [] ((7001 ∷ 52 ∷ 2 ∷ 11 ∷ 0 ∷ []) ∷ [])) 13)
    × (read_desk_asked (6 ∷ 0 ∷ 6 ∷ 0 ∷ 0 ∷ 0 ∷ 0 ∷ 0 ∷ []) ≡ desk_message_refused (BadField nowhere) 8)
