-- What bytes make of a station: the call that a message makes, what it is answered with, and a whole input as a list of calls.
-- Assumes nothing.
use Rattle.std.specs.Prelude.{Bool, true, false, cond, ◌&&◌, List, [], ◌∷◌, ◌++◌, ℕ, zero, suc, ◌^◌, ◌<◌, eqb, length, drop}
use Rattle.answers.specs.declared.Answer.{Answer}
use Rattle.answers.specs.declared.Answer.TheVariants.{UnknownKind}
use Rattle.answers.specs.Answers.{number_of}
use Rattle.station.specs.declared.Station.{Station}
use Rattle.station_laws.specs.Runs as run
use Rattle.station_laws.specs.Runs.{Call, call, answer_number, station_after}
use Rattle.wire.specs.declared.What.{What}
use Rattle.wire.specs.declared.What.TheVariants.{Request, Event, Result, Image, Ask, Held}
use Rattle.wire.specs.Reads.{frame_of, read_asked}
use Rattle.service.specs.declared.Reply.{Reply}
use Rattle.service.specs.Service.{answer_message, answer_bytes, no_bytes, go_on}
use Rattle.service.specs.Runs as service

-- ---- one message

-- what the first message of some bytes makes: a call, or none and why
pub data Heard : Type 0 where
  makes : Call → Heard
  refuses : Answer → Heard

-- by what it says; kinds 128 and 129 are unknown to a station
abbrev pub heard_as : What → ℕ → List ℕ → Heard
heard_as Request count set = makes (run.request count set)
heard_as (Event way) count set = makes (run.event way)
heard_as (Result issue number ending) count set = makes (run.result_call issue number ending)
heard_as (Image r apart) count set = makes (run.image_call r apart)
heard_as Ask count set = makes run.ask
heard_as (What.Answer number place issue) count set = refuses UnknownKind
heard_as (Held r apart) count set = refuses UnknownKind

-- by its bytes: what the station's reader refuses makes no call
unfoldable pub heard : List ℕ → Heard
heard bytes =
    let r = read_asked bytes in
    let m = r.message in
    cond (eqb (number_of r.answer) 0) (heard_as m.what m.count m.set) (refuses r.answer)

-- whether a call asks for the record
abbrev pub is_ask : Call → Bool
is_ask (run.request n set) = false
is_ask (run.reports r) = false
is_ask (run.event e) = false
is_ask (run.pictures p) = false
is_ask run.ask = true

-- a call's answer as a message: the record, and what is set apart, after an ask that is taken
abbrev pub reply_to : Station → Call → What
reply_to s c = cond (is_ask c && eqb (answer_number s c) 0) (Held (station_after s c).bits (station_after s c).apart) (answer_message (call s c).answer)

-- the answer and the station after it: the call's, or the refusal and the station as it was
abbrev pub reply : Station → Heard → Reply
reply s (makes c) = record { station = station_after s c; answer = reply_to s c }
reply s (refuses a) = record { station = s; answer = answer_message a }

-- ---- a whole input

-- what its messages make, one after another, as far as they are answered; each takes a byte at least
unfoldable pub heard_for : ℕ → List ℕ → List Heard
heard_for zero input = []
heard_for (suc k) input = cond (no_bytes input) [] (heard input ∷ go_on (frame_of input) (λ n. heard_for k (drop n input)))

-- all of them
abbrev pub heard_in : List ℕ → List Heard
heard_in input = heard_for (length input) input

-- the calls among them
abbrev pub calls_in : List Heard → List Call
calls_in [] = []
calls_in (makes c ∷ l) = c ∷ calls_in l
calls_in (refuses a ∷ l) = calls_in l

-- what they are answered with, each on the station that those before it have left
abbrev pub replies_heard : Station → List Heard → List What
replies_heard s [] = []
replies_heard s (h ∷ l) = (reply s h).answer ∷ replies_heard (reply s h).station l

-- replies in bytes, one after another
abbrev pub in_bytes : List What → List ℕ
in_bytes [] = []
in_bytes (w ∷ l) = answer_bytes w ++ in_bytes l

-- the station after an input that comes in pieces, with some bytes held from before
unfoldable pub fed_station : Station → List ℕ → List (List ℕ) → Station
fed_station s held [] = s
fed_station s held (p ∷ ps) =
    let r = service.run s (held ++ p) in
    cond r.stop r.station (fed_station r.station (drop r.used (held ++ p)) ps)

-- ---- images

-- an image among some calls is a number of 64 bits
abbrev pub Sized : List Call → Type 0
Sized [] = Unit {0}
Sized (run.request n set ∷ l) = Sized l
Sized (run.reports r ∷ l) = Sized l
Sized (run.event e ∷ l) = Sized l
Sized (run.pictures p ∷ l) = (p.bits < 2 ^ 64) × Sized l
Sized (run.ask ∷ l) = Sized l
