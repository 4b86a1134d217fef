-- What is promised of messages and of record images: what was written reads back as what was meant, and bytes that read as a meaning
-- are exactly the bytes that writing it gives. Where a field is bad, the place that is told is the least bad instruction's. Of the
-- station's reader: it says what the library's says, but of kinds above 5.
-- Proved in proofs/. Assumes nothing.
use Rattle.std.specs.Prelude.{◌≡◌, true, List, ℕ, ◌≤◌, ◌*◌, ◌<◌, ◌^◌, get_or, length, take, drop}
use Rattle.bits.specs.Search.{IsLeast}
use Rattle.codec.specs.Bytes.{Bytes}
use Rattle.rules.specs.declared.Instruction.{Instruction}
use Rattle.std.specs.declared.option.Option.TheVariants.{Some}
use Rattle.rules.specs.Rules.{well_formed}
use Rattle.rules.specs.Codes.{bytes_of, code_from, read_code}
use Rattle.answers.specs.declared.Answer.TheVariants.{Taken, UnknownKind, BadField}
use Rattle.answers.specs.Answers.{nowhere}
use Rattle.std.specs.declared.result.Result.TheVariants.{Ok}
use Rattle.wire.specs.declared.What.{What}
use Rattle.wire.specs.declared.What.TheVariants.{Request, Event, Result, Image, Ask, Answer, Held}
use Rattle.wire.specs.declared.Message.{Message}
use Rattle.wire.specs.Reads.{Received}
use Rattle.wire.specs.declared.Frame.TheVariants.{Whole}
use Rattle.wire.specs.Kinds.{first_instruction, request_kind}
use Rattle.wire.specs.Reads.{frame_of, kind_at, message_refused, message_taken, bad_in, read_message, read_asked}
use Rattle.wire.specs.Writes.{message_bytes, is_request, writing_message, one_form}

-- the record that a message carries, or zero
abbrev pub record_carried : What → ℕ
record_carried Request = 0
record_carried (Event way) = 0
record_carried (Result issue number ending) = 0
record_carried (Image bits apart) = bits
record_carried Ask = 0
record_carried (Answer number place issue) = 0
record_carried (Held bits apart) = bits

-- what it carries as set apart, or zero
abbrev pub apart_in : What → ℕ
apart_in Request = 0
apart_in (Event way) = 0
apart_in (Result issue number ending) = 0
apart_in (Image bits apart) = apart
apart_in Ask = 0
apart_in (Answer number place issue) = 0
apart_in (Held bits apart) = apart

-- the issue that it carries, or zero
abbrev pub issue_in : What → ℕ
issue_in Request = 0
issue_in (Event way) = 0
issue_in (Result issue number ending) = issue
issue_in (Image bits apart) = 0
issue_in Ask = 0
issue_in (Answer number place issue) = issue
issue_in (Held bits apart) = 0

-- a message as code holds it: an image is two numbers of 64 bits, the issue one of 16, the set has forty places
pub record MessageTyped (m : Message) : Type 0 where
  pub image : record_carried m.what < 2 ^ 64
  pub apart : apart_in m.what < 2 ^ 64
  pub issue : issue_in m.what < 2 ^ 16
  pub places : length m.set ≡ 40

-- a message that was written reads back as what was meant, whatever stands after it in the room
abbrev pub ReadsBack : Type 0
ReadsBack = (m : Message) (room : List ℕ) (n : ℕ) → MessageTyped m → (writing_message m room).says ≡ Ok n
    → read_message (writing_message m room).leaves ≡ message_taken (one_form m) n

-- a message that was read: its bytes are those of its meaning, its unused places are zero, and writing it over them changes nothing
pub record Form (s : List ℕ) (m : Message) (n : ℕ) : Type 0 where
  pub bytes : take n s ≡ message_bytes m
  pub unused : one_form m ≡ m
  pub written : writing_message m s ≡ record { says = Ok n; leaves = s }

-- bytes that read as a meaning are exactly the bytes that writing it gives
abbrev pub OneForm : Type 0
OneForm = (s : List ℕ) (m : Message) (n : ℕ) → Bytes s → read_message s ≡ message_taken m n → Form s m n

-- the five bytes of instruction i of a message
abbrev pub five_of : Message → ℕ → List ℕ
five_of m i = take 5 (drop (5 * i) m.set)

-- each instruction of a request that was read is the one that a station reads there, is well formed and stands in its one form
abbrev pub InstructionsOneForm : Type 0
InstructionsOneForm = (s : List ℕ) (m : Message) (n : ℕ) → Bytes s → read_message s ≡ message_taken m n → is_request m ≡ true
    → (i : ℕ) → i < m.count
    → (j : Instruction) × (read_code (code_from (drop (5 * i) m.set)) ≡ Some j) × (well_formed j ≡ true) × (five_of m i ≡ bytes_of j)

-- the place of a reader's 4: in a request the least bad of the instructions after the count, in any other message nowhere
abbrev pub Placed : (List ℕ → Received) → Type 0
Placed reader = (s : List ℕ) (p n : ℕ) → reader s ≡ message_refused (BadField p) n
    → (kind_at s ≡ request_kind → IsLeast (get_or s 4 0) (bad_in (drop first_instruction s)) p) × ((kind_at s ≡ request_kind → ⊥) → p ≡ nowhere)

-- where the library's reader refuses with 4, the place is the least bad instruction of a request, and 255 of every other message
abbrev pub PlaceRead : Type 0
PlaceRead = Placed read_message

-- where the station's reader refuses with 4, the place is the least bad instruction of a request, and 255 of every other message
abbrev pub PlaceAsked : Type 0
PlaceAsked = Placed read_asked

-- on kinds up to 5 the station's reader says what the library's says
abbrev pub AskedAlike : Type 0
AskedAlike = (s : List ℕ) → kind_at s ≤ 5 → read_asked s ≡ read_message s

-- any kind above 5 is unknown to the station's reader, whatever its length
abbrev pub AskedUnknown : Type 0
AskedUnknown = (s : List ℕ) (n : ℕ) → frame_of s ≡ Whole n → 5 < kind_at s → read_asked s ≡ message_refused UnknownKind n
