-- A run of messages: all whole ones of some bytes answered one after another, what that leaves in lent room, and an input that comes
-- in pieces. Assumes nothing.
use Rattle.std.specs.Prelude.{◌≡◌, Bool, true, false, cond, List, [], ◌∷◌, ◌++◌, ℕ, zero, suc, ◌+◌, ◌*◌, leb, length, drop}
use Rattle.answers.specs.declared.Answer.TheVariants.{Taken, TooFewBytes, BadLength, NoRoom}
use Rattle.station.specs.declared.Station.{Station}
use Rattle.wire.specs.declared.Frame.{Frame}
use Rattle.wire.specs.declared.Frame.TheVariants.{Cut, Wrong, Whole}
use Rattle.wire.specs.Reads.{frame_of}
use Rattle.wire.specs.Writes.{Writing, put}
use Rattle.service.specs.declared.Served.{Served}
use Rattle.service.specs.Service.{respond, answer_message, answer_bytes, no_bytes}

-- what a run leaves: the station, how many bytes its messages took, their answers, and whether nothing more is to be read
pub record Ran : Type 0 where
  pub station : Station
  pub used : ℕ
  pub bytes : List ℕ
  pub stop : Bool

-- the run ends here, with these last bytes
abbrev pub run_ends : Station → List ℕ → Bool → Ran
run_ends s bytes stop = record { station = s; used = 0; bytes = bytes; stop = stop }

-- n bytes taken and these answered before it
abbrev pub run_further : ℕ → List ℕ → Ran → Ran
run_further n bytes r = record { station = r.station; used = n + r.used; bytes = bytes ++ r.bytes; stop = r.stop }

-- one message, and then what go says of the rest: a message that is cut short is left, a wrong length is answered with 2 and stops the run
abbrev pub run_after : Frame → (Station → List ℕ → Ran) → Station → List ℕ → Ran
run_after Cut go s input = run_ends s [] false
run_after Wrong go s input = run_ends s (answer_bytes (answer_message BadLength)) true
run_after (Whole n) go s input = run_further n (answer_bytes (respond s input).answer) (go (respond s input).station (drop n input))

-- at most so many messages
unfoldable pub run_of : ℕ → Station → List ℕ → Ran
run_of zero s input = run_ends s [] false
run_of (suc k) s input = run_after (frame_of input) (run_of k) s input

-- all of them: each takes a byte at least
abbrev pub run : Station → List ℕ → Ran
run s input = run_of (length input) s input

-- ---- in lent room

-- what a call that serves says, and what it leaves in the room
pub record Serving : Type 0 where
  pub says : Served
  pub leaves : List ℕ

-- what a call says is said, and what it leaves is left
abbrev pub Serves : Serving → Served → List ℕ → Type 0
Serves w r room = (r ≡ w.says) × (room ≡ w.leaves)

-- nothing is done
abbrev pub unserved : Station → List ℕ → Serving
unserved s room = record { says = record { answer = NoRoom; station = s; used = 0; made = 0; stop = false }; leaves = room }

-- a run as said, its answers at the start of the room, and past them what was there
abbrev pub served : Ran → List ℕ → Serving
served r room =
    record {
      says = record { answer = Taken; station = r.station; used = r.used; made = length r.bytes; stop = r.stop };
      leaves = r.bytes ++ drop (length r.bytes) room;
    }

-- the room that is enough for any input so long: a message has four bytes or more and its answer twenty at most, a wrong length has two
-- bytes or more and its answer eight
abbrev pub enough : ℕ → ℕ
enough n = 5 * n

-- a run of messages in lent room: 17 and nothing else where the room may be too short
unfoldable pub serving : Station → List ℕ → List ℕ → Serving
serving s input room = cond (leb (enough (length input)) (length room)) (served (run s input) room) (unserved s room)

-- ---- at the end of the input

-- the answer to bytes that are left over: 1; to none, none
abbrev pub last_of : List ℕ → List ℕ
last_of held = cond (no_bytes held) [] (answer_bytes (answer_message TooFewBytes))

-- the same in lent room: 17 exactly if it is shorter than the answer
abbrev pub finishing : List ℕ → List ℕ → Writing
finishing held room = put (last_of held) room

-- ---- in pieces

-- an input that comes in pieces, with some bytes held from before: each piece is put behind them, all whole messages are answered, and
-- the rest is held; after a stop nothing more is read or answered
unfoldable pub feed : Station → List ℕ → List (List ℕ) → List ℕ
feed s held [] = last_of held
feed s held (p ∷ ps) =
    let r = run s (held ++ p) in
    r.bytes ++ cond r.stop [] (feed r.station (drop r.used (held ++ p)) ps)

-- from the first piece on
abbrev pub fed : Station → List (List ℕ) → List ℕ
fed s pieces = feed s [] pieces
