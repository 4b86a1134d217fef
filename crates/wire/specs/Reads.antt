-- What the bytes of a message say: document 01's refusals, in its order. Assumes nothing.
use Rattle.std.specs.Prelude.{Bool, true, false, cond, List, [], ◌∷◌, ℕ, ◌+◌, ◌*◌, ltb, eqb, get_or, length, take, drop}
use Rattle.bits.specs.Search.{least}
use Rattle.codec.specs.Bytes.{from_little_endian}
use Rattle.std.specs.declared.option.Option.{Option}
use Rattle.std.specs.declared.option.Option.TheVariants.{Some, None}
use Rattle.std.specs.declared.result.Result.{Result}
use Rattle.std.specs.declared.result.Result.TheVariants.{Ok, Err}
use Rattle.rules.specs.declared.Instruction.{Instruction}
use Rattle.rules.specs.Codes.{read_bytes, most_in_set}
use Rattle.answers.specs.declared.Answer.{Answer}
use Rattle.answers.specs.declared.Answer.TheVariants.{Taken, TooFewBytes, BadLength, UnknownKind, BadField, TooMany}
use Rattle.answers.specs.Answers.{number_of, nowhere}
use Rattle.wire.specs.declared.What.{What}
use Rattle.wire.specs.declared.What.TheVariants.{Ask}
use Rattle.wire.specs.declared.Message.{Message}
use Rattle.wire.specs.declared.Parsed.{Parsed}
use Rattle.wire.specs.declared.Frame.{Frame}
use Rattle.wire.specs.declared.Frame.TheVariants.{Cut, Wrong, Whole}
use Rattle.wire.specs.Kinds.{first_instruction, SizedKind, request_kind, kinds_asked, kinds_known, in_range, plain, requesting}

-- the length that a message gives itself, which counts what follows it
abbrev pub length_at : List ℕ → ℕ
length_at s = from_little_endian 2 0 s

-- its kind
abbrev pub kind_at : List ℕ → ℕ
kind_at m = from_little_endian 2 2 m

-- how far the first message goes: cut short under two bytes, wrong below 2 or above 43, cut short where the bytes run out
abbrev pub frame_of : List ℕ → Frame
frame_of s =
    cond (ltb (length s) 2) Cut
    (cond (ltb (length_at s) 2) Wrong
    (cond (ltb 43 (length_at s)) Wrong
    (cond (ltb (length s) (length_at s + 2)) Cut (Whole (length_at s + 2)))))

-- what reading answers: how many bytes the message took, none where they can't be told, and what it says, a blank one if refused
pub record Received : Type 0 where
  pub answer : Answer
  pub used : ℕ
  pub message : Message

-- refused, with a blank message; n says how many bytes the message took
abbrev pub message_refused : Answer → ℕ → Received
message_refused a n = record { answer = a; used = n; message = plain Ask }

-- taken
abbrev pub message_taken : Message → ℕ → Received
message_taken m n = record { answer = Taken; used = n; message = m }

-- a message that says w: 2 where it isn't n bytes long, 4 where a field is out of its range
abbrev pub sized : List ℕ → ℕ → What → Received
sized m n w =
    cond (eqb (length m) n)
    (cond (in_range w) (message_taken (plain w) (length m)) (message_refused (BadField nowhere) (length m)))
    (message_refused BadLength (length m))

-- five bytes that say no instruction
abbrev pub is_bad : (Option Instruction) → Bool
is_bad (Some i) = false
is_bad None = true

-- instruction i of a run of them, read from its own five bytes, is bad
abbrev pub bad_in : List ℕ → ℕ → Bool
bad_in s i = is_bad (read_bytes (drop (5 * i) s))

-- a request: 2 with no count, 5 above eight, 2 where the length isn't the count's, 4 at the least bad instruction
unfoldable pub read_request : List ℕ → Received
read_request m =
    let count = get_or m 4 0 in
    let bad = least count (bad_in (drop first_instruction m)) in
    cond (ltb (length m) first_instruction) (message_refused BadLength (length m))
    (cond (ltb most_in_set count) (message_refused TooMany (length m))
    (cond (eqb (length m) (first_instruction + 5 * count))
    (cond (ltb bad count) (message_refused (BadField bad) (length m)) (message_taken (requesting count (drop first_instruction m)) (length m)))
    (message_refused BadLength (length m))))

-- a message of one of these kinds; 3 where it is of none
abbrev pub read_among : List SizedKind → List ℕ → Received
read_among [] m = message_refused UnknownKind (length m)
read_among (k ∷ ks) m = cond (eqb (kind_at m) k.number) (sized m (4 + k.size) (k.says m)) (read_among ks m)

-- as code holds it: the message, or why it is refused
abbrev pub as_parsed : Received → Parsed
as_parsed r = record { used = r.used; says = cond (eqb (number_of r.answer) 0) (Ok r.message) (Err r.answer) }

-- what a message says, without the places of a set, or why it is refused
abbrev pub said_in : Received → Result What Answer
said_in r = cond (eqb (number_of r.answer) 0) (Ok r.message.what) (Err r.answer)

-- a message whose bytes are exactly m: a request, or one of these kinds
unfoldable pub read_whole : List SizedKind → List ℕ → Received
read_whole ks m = cond (eqb (kind_at m) request_kind) (read_request m) (read_among ks m)

-- the first message of s; what stands after it is not looked at
abbrev pub read_framed : List SizedKind → Frame → List ℕ → Received
read_framed ks Cut s = message_refused TooFewBytes 0
read_framed ks Wrong s = message_refused BadLength 0
read_framed ks (Whole n) s = read_whole ks (take n s)

-- the library's reader
unfoldable pub read_message : List ℕ → Received
read_message s = read_framed kinds_known (frame_of s) s

-- the station's reader
unfoldable pub read_asked : List ℕ → Received
read_asked s = read_framed kinds_asked (frame_of s) s
