-- What the contracts of private functions cite; no public one rests on it. Assumes nothing.
use Rattle.std.specs.Prelude.{◌≡◌, Bool, true, false, cond, ◌&&◌, List, ◌++◌, ℕ, eqb, length, drop}
use Rattle.answers.specs.Answers.{number_of}
use Rattle.station.specs.declared.Station.{Station}
use Rattle.station.specs.declared.Outcome.{Outcome}
use Rattle.station.specs.declared.Turn.{Turn}
use Rattle.station.specs.Calls.{refused}
use Rattle.station.specs.Turns.{turn_of}
use Rattle.wire.specs.declared.What.{What}
use Rattle.wire.specs.declared.What.TheVariants.{Request, Event, Result, Image, Ask, Answer, Held}
use Rattle.wire.specs.Reads.{Received}
use Rattle.wire.specs.Kinds.{ask_kind, kinds_asked}
use Rattle.wire.specs.Reads.{read_whole}
use Rattle.service.specs.declared.Reply.{Reply}
use Rattle.service.specs.Service.{answer_message, called_known}

-- a message makes a call: kinds 128 and 129 make none
abbrev pub makes_call : What → Bool
makes_call Request = true
makes_call (Event way) = true
makes_call (Result issue number ending) = true
makes_call (Image bits apart) = true
makes_call Ask = true
makes_call (Answer number place issue) = false
makes_call (Held bits apart) = false

-- a message is a result
abbrev pub is_result : What → Bool
is_result Request = false
is_result (Event way) = false
is_result (Result issue number ending) = true
is_result (Image bits apart) = false
is_result Ask = false
is_result (Answer number place issue) = false
is_result (Held bits apart) = false

-- what was read as a call: refused in reading, the station is as it was
abbrev pub called_as : Bool → Station → Received → Outcome
called_as known s r =
    cond (eqb (number_of r.answer) 0)
    (called_known known r.message.what s r.message.count r.message.set)
    (refused s r.answer)

-- a message whose bytes are exactly m as a call
unfoldable pub message_call : Bool → Station → List ℕ → Outcome
message_call known s m = called_as known s (read_whole kinds_asked m)

-- what a message of this kind is told after its turn: an ask that was taken, the image
abbrev pub reply_said : ℕ → Turn → What
reply_said kind t = cond (eqb kind ask_kind.number && eqb (number_of t.answer) 0) (Held t.bits t.apart) (answer_message t.answer)

-- these bytes put at the start of a room: how many they are is said, and past them stands what was there
abbrev pub Puts : List ℕ → List ℕ → ℕ → List ℕ → Type 0
Puts bytes before n after = (n ≡ length bytes) × (after ≡ bytes ++ drop (length bytes) before)

-- the reply to it
abbrev pub message_reply : ℕ → Outcome → Reply
message_reply kind o = record { station = o.station; answer = reply_said kind (turn_of o) }
