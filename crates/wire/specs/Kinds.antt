-- The seven kinds of messages. Here and nowhere else stand their numbers, the layouts of their bodies and the ranges of their fields.
-- Assumes nothing.
use Rattle.std.specs.Prelude.{Bool, true, ◌&&◌, ◌||◌, List, [], ◌∷◌, ◌++◌, ℕ, ◌*◌, ◌-◌, leb, eqb, length, get_or, take, replicate}
use Rattle.codec.specs.Bytes.{little_endian, from_little_endian}
use Rattle.answers.specs.Answers.{in_table, nowhere}
use Rattle.wire.specs.declared.What.{What}
use Rattle.wire.specs.declared.What.TheVariants.{Request, Event, Result, Image, Ask, Answer, Held}
use Rattle.wire.specs.declared.Message.{Message}

-- the place of its first instruction
abbrev pub first_instruction : ℕ
first_instruction = 5

-- a kind whose body has one size: its number, that size, and what a message of this kind says; its body starts at place 4
pub record SizedKind : Type 0 where
  pub number : ℕ
  pub size : ℕ
  pub says : List ℕ → What

-- 1: a request; its body is a count, then five bytes for each instruction
abbrev pub request_kind : ℕ
request_kind = 1

-- 2: an event: a drive begins, 1 in or 2 out, or ends, 3 done or 4 not done
abbrev pub event_kind : SizedKind
event_kind = record { number = 2; size = 1; says = λ m. Event (get_or m 4 0) }

-- 3: a result, the issue of its set, the number of the instruction and its ending, 0 failed, 1 done or 2 stuck
abbrev pub result_kind : SizedKind
result_kind = record { number = 3; size = 4; says = λ m. Result (from_little_endian 2 4 m) (get_or m 6 0) (get_or m 7 0) }

-- 4: an image to take, the record and what is set apart
abbrev pub image_kind : SizedKind
image_kind = record { number = 4; size = 16; says = λ m. Image (from_little_endian 8 4 m) (from_little_endian 8 12 m) }

-- 5: the image is asked for
abbrev pub ask_kind : SizedKind
ask_kind = record { number = 5; size = 0; says = λ m. Ask }

-- 128: an answer, its number, its place and the issue of the set that it opens
abbrev pub answer_kind : SizedKind
answer_kind = record { number = 128; size = 4; says = λ m. Answer (get_or m 4 0) (get_or m 5 0) (from_little_endian 2 6 m) }

-- 129: the image that was asked for, the record and what is set apart
abbrev pub held_kind : SizedKind
held_kind = record { number = 129; size = 16; says = λ m. Held (from_little_endian 8 4 m) (from_little_endian 8 12 m) }

-- the kinds that a station reads besides requests
abbrev pub kinds_asked : List SizedKind
kinds_asked = event_kind ∷ result_kind ∷ image_kind ∷ ask_kind ∷ []

-- those that the library reads
abbrev pub kinds_known : List SizedKind
kinds_known = answer_kind ∷ held_kind ∷ kinds_asked

-- the number of the kind that says this
abbrev pub kind_of : What → ℕ
kind_of Request = request_kind
kind_of (Event way) = event_kind.number
kind_of (Result issue number ending) = result_kind.number
kind_of (Image bits apart) = image_kind.number
kind_of Ask = ask_kind.number
kind_of (Answer number place issue) = answer_kind.number
kind_of (Held bits apart) = held_kind.number

-- the body that says this: of a request, a count and the bytes of so many instructions
abbrev pub body_of : What → ℕ → List ℕ → List ℕ
body_of Request count set = count ∷ take (5 * count) set
body_of (Event way) count set = way ∷ []
body_of (Result issue number ending) count set = little_endian 2 issue ++ number ∷ ending ∷ []
body_of (Image bits apart) count set = little_endian 8 bits ++ little_endian 8 apart
body_of Ask count set = []
body_of (Answer number place issue) count set = number ∷ place ∷ little_endian 2 issue
body_of (Held bits apart) count set = little_endian 8 bits ++ little_endian 8 apart

-- the fields are in their ranges, the number of an answer one of the table's, an issue and an image's numbers any; a request's
-- instructions have ranges of their own
abbrev pub in_range : What → Bool
in_range Request = true
in_range (Event way) = leb 1 way && leb way 4
in_range (Result issue number ending) = leb ending 2
in_range (Image bits apart) = true
in_range Ask = true
in_range (Answer number place issue) = in_table number && (leb place 7 || eqb place nowhere)
in_range (Held bits apart) = true

-- a run of bytes as the forty places of a set: zeros where it ends before, and what goes past them is not looked at
abbrev pub set_of : List ℕ → List ℕ
set_of s = take 40 s ++ replicate (40 - length s) 0

-- a message that holds no instruction
abbrev pub plain : What → Message
plain w = record { what = w; count = 0; set = replicate 40 0 }

-- a request of so many instructions: their bytes, and zeros in the unused places
abbrev pub requesting : ℕ → List ℕ → Message
requesting n s = record { what = Request; count = n; set = take (5 * n) s ++ replicate (40 - 5 * n) 0 }
