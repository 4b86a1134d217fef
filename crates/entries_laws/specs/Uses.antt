-- The entries that take a lent station, as one list of cases: what each returns and leaves, and the call that it is. Assumes nothing.
use Rattle.std.specs.Prelude.{◌≡◌, Bool, true, cond, ◌&&◌, List, [], ◌∷◌, ◌++◌, ℕ, ◌*◌, ◌%◌, ◌^◌, ◌≤◌, ◌<◌, leb, ltb, length, take}
use Rattle.codec.specs.Bytes.{Bytes}
use Rattle.rules.specs.Codes.{most_in_set}
use Rattle.answers.specs.declared.Answer.TheVariants.{Taken, TooFewBytes}
use Rattle.station.specs.declared.Station.{Station}
use Rattle.station.specs.Station.{start_of}
use Rattle.station.specs.Calls as station
use Rattle.station_laws.specs.Runs as run
use Rattle.service.specs.declared.Reply.{Reply}
use Rattle.service.specs.Service.{respond, answer_bytes, answer_message}
use Rattle.rooms.specs.Rooms.{station_size, station_of, Entry, entry, request_of}
use Rattle.station_c.specs.Entries.{asking, exchange}
use Rattle.entries_laws.specs.Calls.{Heard, makes, refuses, heard, reply, calls_in}

-- an entry with what it is given: a set of so many instructions; an event; a result with its issue; an image with what it says is set apart; the image's room; a message and the reply's room
pub data Use : Type 0 where
  start : Use
  request : ℕ → List ℕ → Use
  event : ℕ → Use
  result : ℕ → ℕ → ℕ → Use
  image : ℕ → ℕ → Use
  ask : List ℕ → Use
  message : List ℕ → List ℕ → Use

-- what it returns, and what it leaves in the station's room
abbrev pub entry_used : List ℕ → Use → Entry
entry_used room start = entry (λ s. station.taken start_of) room
entry_used room (request n set) = entry (request_of n set) room
entry_used room (event e) = entry (λ s. station.event s e) room
entry_used room (result k i ending) = entry (λ s. station.result s (record { issue = k; number = i; ending = ending })) room
entry_used room (image r apart) = entry (λ s. station.take_image s (record { bits = r; apart = apart })) room
entry_used room (ask out) = record { says = (asking room out).says; leaves = room }
entry_used room (message m out) = record { says = (exchange room m out).says; leaves = (exchange room m out).station }

-- the station's room after several
abbrev pub uses : List ℕ → List Use → List ℕ
uses room [] = room
uses room (u ∷ l) = uses (entry_used room u).leaves l

-- what a request makes whose set is lent as a run of bytes: 1 where they are fewer than its count says
abbrev pub heard_request : ℕ → List ℕ → Heard
heard_request n set = cond (leb n most_in_set && ltb (length set) (5 * n)) (refuses TooFewBytes) (makes (run.request n (take (5 * n) set)))

-- the answer and the next station that it stands for: a call's, a message's, or the start
abbrev pub meant : Station → Use → Reply
meant s start = record { station = start_of; answer = answer_message Taken }
meant s (request n set) = reply s (heard_request n set)
meant s (event e) = reply s (makes (run.event e))
meant s (result k i ending) = reply s (makes (run.result_call k i ending))
meant s (image r apart) = reply s (makes (run.image_call r apart))
meant s (ask out) = reply s (makes run.ask)
meant s (message m out) = reply s (heard m)

-- as C passes it: an image of 64 bits, a message of bytes
abbrev pub AsPassed : Use → Type 0
AsPassed start = Unit {0}
AsPassed (request n set) = Unit {0}
AsPassed (event e) = Unit {0}
AsPassed (result k i ending) = Unit {0}
AsPassed (image r apart) = r < 2 ^ 64
AsPassed (ask out) = Unit {0}
AsPassed (message m out) = Bytes m

-- each of several
abbrev pub AllPassed : List Use → Type 0
AllPassed [] = Unit {0}
AllPassed (u ∷ l) = AsPassed u × AllPassed l

-- whether the room that it writes an image or a reply to is long enough: sixteen bytes for an image, for a reply as many as it has
abbrev pub roomy : List ℕ → Use → Bool
roomy room start = true
roomy room (request n set) = true
roomy room (event e) = true
roomy room (result k i ending) = true
roomy room (image r apart) = true
roomy room (ask out) = leb 16 (length out)
roomy room (message m out) = leb (length (answer_bytes (respond (station_of room) m).answer)) (length out)

-- ---- the calls that entries make

-- the call that an entry makes, if it makes one: station_start makes none, and neither does what can't be read
abbrev pub call_by : Use → List run.Call
call_by start = []
call_by (request n set) = calls_in (heard_request n set ∷ [])
call_by (event e) = run.event e ∷ []
call_by (result k i ending) = run.result_call k i ending ∷ []
call_by (image r apart) = run.image_call r apart ∷ []
call_by (ask out) = run.ask ∷ []
call_by (message m out) = calls_in (heard m ∷ [])

-- the calls that several make, each on the room that those before it have left; one without room for its answer makes none
abbrev pub calls_by : List ℕ → List Use → List run.Call
calls_by room [] = []
calls_by room (u ∷ l) = cond (roomy room u) (call_by u) [] ++ calls_by (entry_used room u).leaves l

-- none of them is station_start, which begins another garage
abbrev pub NoStarts : List Use → Type 0
NoStarts [] = Unit {0}
NoStarts (start ∷ l) = ⊥
NoStarts (request n set ∷ l) = NoStarts l
NoStarts (event e ∷ l) = NoStarts l
NoStarts (result k i ending ∷ l) = NoStarts l
NoStarts (image r apart ∷ l) = NoStarts l
NoStarts (ask out ∷ l) = NoStarts l
NoStarts (message m out ∷ l) = NoStarts l

-- a room where a lent station begins: after station_start, or after an entry, station_message too, whose image is accepted
pub data RoomBegun : List ℕ → Type 0 where
  started : (room : List ℕ) → station_size ≤ length room → RoomBegun (entry_used room start).leaves
  imaged : (room : List ℕ) (u : Use) (r apart : ℕ) → Bytes room → station_size ≤ length room → AsPassed u
      → call_by u ≡ run.image_call r apart ∷ [] → (entry_used room u).says % 256 ≡ 0 → RoomBegun (entry_used room u).leaves
