-- What messages are answered with: one message on a station, and all that a whole input is answered with from the start on. This is
-- document 01's program as a function of bytes. Assumes nothing.
use Rattle.std.specs.Prelude.{Bool, true, false, cond, List, [], ◌∷◌, ◌++◌, ℕ, zero, suc, eqb, length, drop}
use Rattle.answers.specs.declared.Answer.{Answer}
use Rattle.answers.specs.declared.Answer.TheVariants.{Unfit, UnknownKind}
use Rattle.answers.specs.Answers.{number_of, place_of, issue_of}
use Rattle.station.specs.declared.Station.{Station}
use Rattle.station.specs.declared.Outcome.{Outcome}
use Rattle.station.specs.Station.{start_of}
use Rattle.station.specs.Calls.{refused, taken, requested, request, evented, event, resulted, result, imaged, take_image, ask}
use Rattle.wire.specs.declared.What.{What}
use Rattle.wire.specs.declared.What.TheVariants.{Request, Event, Result, Image, Ask, Held}
use Rattle.wire.specs.declared.Frame.{Frame}
use Rattle.wire.specs.declared.Frame.TheVariants.{Cut, Wrong, Whole}
use Rattle.wire.specs.Kinds.{plain}
use Rattle.wire.specs.Reads.{frame_of, read_asked}
use Rattle.wire.specs.Writes.{message_bytes}
use Rattle.service.specs.declared.Reply.{Reply}

-- the call that a message makes; kinds 128 and 129 are unknown to a station
abbrev pub called : What → Station → ℕ → List ℕ → Outcome
called Request s count set = request s count set
called (Event way) s count set = event s way
called (Result issue number ending) s count set = result s (record { issue = issue; number = number; ending = ending })
called (Image bits apart) s count set = take_image s (record { bits = bits; apart = apart })
called Ask s count set = ask s
called (What.Answer number place issue) s count set = refused s UnknownKind
called (Held bits apart) s count set = refused s UnknownKind

-- an answer as a message
abbrev pub answer_message : Answer → What
answer_message a = What.Answer (number_of a) (place_of a) (issue_of a)

-- a call's answer as a message: the image after an ask that was taken
abbrev pub reply_message : What → Outcome → What
reply_message Request o = answer_message o.answer
reply_message (Event way) o = answer_message o.answer
reply_message (Result issue number ending) o = answer_message o.answer
reply_message (Image bits apart) o = answer_message o.answer
reply_message Ask o = cond (eqb (number_of o.answer) 0) (Held o.station.bits o.station.apart) (answer_message o.answer)
reply_message (What.Answer number place issue) o = answer_message o.answer
reply_message (Held bits apart) o = answer_message o.answer

-- the reply to a call
abbrev pub reply_of : What → Outcome → Reply
reply_of w o = record { station = o.station; answer = reply_message w o }

-- the reply to the first message of some bytes: what is refused in reading makes no call
unfoldable pub respond : Station → List ℕ → Reply
respond s bytes =
    let r = read_asked bytes in
    let m = r.message in
    cond (eqb (number_of r.answer) 0)
    (reply_of m.what (called m.what s m.count m.set))
    (record { station = s; answer = answer_message r.answer })

-- a call past its test of fitness, where the station is known to be fit; where it is known not to be, 16
abbrev pub on_known : Bool → Station → Outcome → Outcome
on_known known s o = cond known o (refused s Unfit)

-- the call that a message makes, where fitness is known and is not tested again
abbrev pub called_known : Bool → What → Station → ℕ → List ℕ → Outcome
called_known known Request s count set = on_known known s (requested s count set)
called_known known (Event way) s count set = on_known known s (evented s way)
called_known known (Result issue number ending) s count set = on_known known s (resulted s (record { issue = issue; number = number; ending = ending }))
called_known known (Image bits apart) s count set = on_known known s (imaged s (record { bits = bits; apart = apart }))
called_known known Ask s count set = on_known known s (taken s)
called_known known (What.Answer number place issue) s count set = refused s UnknownKind
called_known known (Held bits apart) s count set = refused s UnknownKind

-- the reply to the first message of some bytes, where fitness is known
unfoldable pub respond_known : Bool → Station → List ℕ → Reply
respond_known known s bytes =
    let r = read_asked bytes in
    let m = r.message in
    cond (eqb (number_of r.answer) 0)
    (reply_of m.what (called_known known m.what s m.count m.set))
    (record { station = s; answer = answer_message r.answer })

-- an answer in bytes
unfoldable pub answer_bytes : What → List ℕ
answer_bytes w = message_bytes (plain w)

-- whether there are no bytes
abbrev pub no_bytes : List ℕ → Bool
no_bytes [] = true
no_bytes (b ∷ bs) = false

-- after a message: on with the rest, but not after 1, nor after a length below 2 or above 43
abbrev pub go_on : {A : Type 0} → Frame → (ℕ → List A) → List A
go_on Cut rest = []
go_on Wrong rest = []
go_on (Whole n) rest = rest n

-- all answers on a station, message after message; where the input ends between messages there is none. Each message takes a byte at least
unfoldable pub answers_for : ℕ → Station → List ℕ → List ℕ
answers_for zero s input = []
answers_for (suc k) s input =
    cond (no_bytes input) []
    (answer_bytes (respond s input).answer ++ go_on (frame_of input) (λ n. answers_for k (respond s input).station (drop n input)))

-- all that a station answers to a whole input
abbrev pub answers_on : Station → List ℕ → List ℕ
answers_on s input = answers_for (length input) s input

-- all that the program answers to a whole input
abbrev pub answers : List ℕ → List ℕ
answers input = answers_on start_of input
