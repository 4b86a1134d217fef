-- The three demands of bytes: every message and every entry is a call of the station, and what is promised of calls holds of whatever is
-- sent. Proved in proofs/. Assumes nothing.
use Rattle.std.specs.Prelude.{◌≡◌, ◌⊎◌, true, List, [], ◌∷◌, ◌++◌, ℕ, ◌+◌, ◌/◌, ◌%◌, ◌≤◌, length, drop}
use Rattle.bits.specs.Bits.{bit}
use Rattle.bits.specs.Places.{join}
use Rattle.floor.specs.Cars.{Car, Layout}
use Rattle.floor.specs.Sound.{Sound, sound}
use Rattle.codec.specs.Bytes.{little_endian, Bytes}
use Rattle.answers.specs.declared.Answer.TheVariants.{Taken, BadField, Overlap}
use Rattle.answers.specs.Answers.{number_of, nowhere}
use Rattle.station.specs.declared.Station.{Station}
use Rattle.station.specs.Station.{closed, start_of, present_issue, fit}
use Rattle.station_laws.specs.Runs.{Call, request, answer_number, fault_index, calls, Begins, NoImages, Reached, cars_driven}
use Rattle.station_laws.specs.Orders.{Fate, Order, Alike}
use Rattle.station_laws.specs.Jams.{stuck, applied, Picks, Chosen}
use Rattle.station_laws.specs.Motion.{Moving, Unheard, LaidOutInFact, CarsInFact, AnyOrderInFact, AllowedInFact, HeardInFact}
use Rattle.station_laws.specs.Recovery.{HasWayBack}
use Rattle.std.specs.declared.result.Result.TheVariants.{Ok}
use Rattle.wire.specs.declared.What.{What}
use Rattle.wire.specs.declared.Message.{Message}
use Rattle.wire.specs.Kinds.{kind_of}
use Rattle.wire.specs.Writes.{writing_message, one_form}
use Rattle.wire_laws.specs.Statements.{MessageTyped}
use Rattle.service.specs.Service.{respond, answer_bytes, answers_on}
use Rattle.service.specs.Runs.{run, fed}
use Rattle.rooms.specs.Rooms.{station_size, station_of}
use Rattle.rooms.specs.Questions.{request_answer}
use Rattle.station_c.specs.Entries.{asking, returned_of, exchange}
use Rattle.station_c.specs.Sets.{pair_answer}
use Rattle.entries_laws.specs.Calls.{heard_as, heard, reply, heard_in, calls_in, replies_heard, in_bytes, fed_station, Sized}
use Rattle.entries_laws.specs.Uses.{Use, entry_used, uses, meant, message, AsPassed, AllPassed, roomy, call_by, calls_by, NoStarts, RoomBegun}

-- ---- messages and entries are calls

-- on every station, any bytes are answered as the call that they make, which leaves the station; or the reader refuses and it stays
abbrev pub MessageIsCall : Type 0
MessageIsCall = (s : Station) (bytes : List ℕ) → respond s bytes ≡ reply s (heard bytes)

-- an input is a list of calls: its answers are theirs, with the reader's refusals between them, and the station is the one that they leave
abbrev pub RunsAreCalls : Type 0
RunsAreCalls =
    (s : Station) (input : List ℕ)
    → (answers_on s input ≡ in_bytes (replies_heard s (heard_in input))) × ((run s input).station ≡ calls s (calls_in (heard_in input)))

-- an input that comes in pieces is the same list of calls
abbrev pub PiecesAreCalls : Type 0
PiecesAreCalls =
    (s : Station) (pieces : List (List ℕ))
    → (fed s pieces ≡ in_bytes (replies_heard s (heard_in (join pieces)))) × (fed_station s [] pieces ≡ calls s (calls_in (heard_in (join pieces))))

-- an image that bytes carry is a number of 64 bits
abbrev pub ImagesSized : Type 0
ImagesSized = (input : List ℕ) → Bytes input → Sized (calls_in (heard_in input))

-- every call can be made: a message of kinds 1 to 5 that was written is heard as what it says
abbrev pub WrittenIsHeard : Type 0
WrittenIsHeard =
    (m : Message) (room : List ℕ) (n : ℕ) → MessageTyped m → kind_of m.what ≤ 5 → (writing_message m room).says ≡ Ok n
    → let f = one_form m in heard (writing_message m room).leaves ≡ heard_as f.what f.count f.set

-- a question says the number that a request of its one instruction would be told, by a station that holds that sound record, no set and
-- nothing set apart
abbrev pub QuestionIsRequest : Type 0
QuestionIsRequest =
    (r next : ℕ) (five : List ℕ) → sound r ≡ true → 5 ≤ length five → number_of (request_answer r five) ≡ answer_number (closed r next 0) (request 1 five)

-- where a request of two, on any station, is told 4 or 8 or is taken, the question for the two says the same, with the same place
abbrev pub PairIsRequest : Type 0
PairIsRequest =
    (s : Station) (one other : List ℕ) → length one ≡ 5 → 5 ≤ length other
    → let c = request 2 (one ++ other) in
    (answer_number s c ≡ 4 → pair_answer one other ≡ BadField (fault_index s c))
    × (answer_number s c ≡ 8 → pair_answer one other ≡ Overlap (fault_index s c))
    × (answer_number s c ≡ 0 → pair_answer one other ≡ Taken)

-- an entry leaves in the room the station that its call leaves, and returns that call's number and place
abbrev pub EntryIsCall : Type 0
EntryIsCall =
    (room : List ℕ) → Bytes room → station_size ≤ length room → (u : Use) → AsPassed u → roomy room u ≡ true
    → (station_of (entry_used room u).leaves ≡ (meant (station_of room) u).station)
    × ((entry_used room u).says ≡ returned_of (meant (station_of room) u).answer)

-- on any room, the place that an entry returns is that of one of eight instructions, or none
abbrev pub EntryPlacesInRange : Type 0
EntryPlacesInRange = (room : List ℕ) (u : Use) → ((entry_used room u).says / 256 % 256 ≤ 7) ⊎ ((entry_used room u).says / 256 % 256 ≡ nowhere)

-- an ask that is taken writes the record's eight bytes, and eight of what is set apart
abbrev pub AskWrites : Type 0
AskWrites =
    (room out : List ℕ) → station_size ≤ length room → 16 ≤ length out → (asking room out).says % 256 ≡ 0
    → (asking room out).leaves ≡ (little_endian 8 (station_of room).bits ++ little_endian 8 (station_of room).apart) ++ drop 16 out

-- a message writes its reply, a refusal too, where it has room for it
abbrev pub MessageWrites : Type 0
MessageWrites =
    (room m out : List ℕ) → station_size ≤ length room → roomy room (message m out) ≡ true
    → let b = answer_bytes (reply (station_of room) (heard m)).answer in (exchange room m out).reply ≡ b ++ drop (length b) out

-- ---- so what is promised of calls holds of bytes

-- every station that calls lead to from one that was reached, images too, is reached
abbrev pub StaysReached : Type 0
StaysReached = (s : Station) → Reached s → (l : List Call) → Sized l → Reached (calls s l)

-- a reached station is fit
abbrev pub ReachedFit : Type 0
ReachedFit = (s : Station) → Reached s → fit s ≡ true

-- whatever the program is sent, and however it is cut, its station is fit; and for every choice of which stuck instructions did in fact
-- finish, its record with those applied is sound
abbrev pub ProgramSound : Type 0
ProgramSound =
    (pieces : List (List ℕ))
    → let l = calls_in (heard_in (join pieces)) in
    (fit (fed_station start_of [] pieces) ≡ true)
    × ((p : List ℕ) → Chosen start_of l p → Sound (bit (applied (stuck start_of l) p (fed_station start_of [] pieces).bits)))

-- each of some replies is no answer 16 or 17
abbrev pub NoSuch : List What → Type 0
NoSuch [] = Unit {0}
NoSuch (w ∷ l) =
    ((place issue : ℕ) → (w ≡ What.Answer 16 place issue → ⊥) × (w ≡ What.Answer 17 place issue → ⊥))
    × NoSuch l

-- whatever bytes the program is sent, it never answers 16 or 17
abbrev pub ProgramNever : Type 0
ProgramNever = (input : List ℕ) → Bytes input → NoSuch (replies_heard start_of (heard_in input))

-- from where a lent station begins, whatever entries follow on its room, it is fit and its record sound
abbrev pub LentSound : Type 0
LentSound =
    (room : List ℕ) → RoomBegun room → (l : List Use) → AllPassed l
    → (fit (station_of (uses room l)) ≡ true) × Sound (bit (station_of (uses room l)).bits)

-- after any entries since then, station_start not among them, the room holds the station that the calls they make lead to from the
-- beginning; whatever entries follow, station_start too, it holds a reached station
abbrev pub RoomsAreRuns : Type 0
RoomsAreRuns =
    (room : List ℕ) → RoomBegun room → (l : List Use) → AllPassed l
    → Begins (station_of room)
    × Reached (station_of (uses room l))
    × (NoStarts l → station_of (uses room l) ≡ calls (station_of room) (calls_by room l))

-- in a room, for every choice of which stuck instructions did in fact finish, the record with those applied is sound
abbrev pub RoomsLaidOut : Type 0
RoomsLaidOut =
    (room : List ℕ) → RoomBegun room → (l : List Use) → AllPassed l → NoStarts l
    → let js = stuck (station_of room) (calls_by room l) in
    (p : List ℕ) → Picks (length js) p → Sound (bit (applied js p (station_of (uses room l)).bits))

-- in a room, for every such choice, there are as many cars as at the beginning, plus those driven in, less those driven out, where no image
-- came since
abbrev pub RoomsCounted : Type 0
RoomsCounted =
    (room : List ℕ) → RoomBegun room → (l : List Use) → AllPassed l → NoStarts l → NoImages (calls_by room l)
    → let s = station_of room in
    let js = stuck s (calls_by room l) in
    (p : List ℕ) → Picks (length js) p
    → (start end : List Car) → Layout (bit s.bits) start → Layout (bit (applied js p (station_of (uses room l)).bits)) end
    → length end + cars_driven 2 s (calls_by room l) ≡ length start + cars_driven 1 s (calls_by room l)

-- two lists of entries whose calls are two orders of an accepted set's results come to the same, and so to the same station in the room
abbrev pub RoomsAnyOrder : Type 0
RoomsAnyOrder =
    (room : List ℕ) → RoomBegun room → (l : List Use) → AllPassed l
    → let before = uses room l in
    (u : Use) (n : ℕ) (set : List ℕ) → AsPassed u → call_by u ≡ request n set ∷ [] → (entry_used before u).says % 256 ≡ 0
    → let opened = (entry_used before u).leaves in
    let s = station_of opened in
    (fate : ℕ → Fate) (events : List ℕ) (a b : List Use) → AllPassed a → AllPassed b → NoStarts a → NoStarts b
    → Order (present_issue s) n fate events (calls_by opened a) → Order (present_issue s) n fate events (calls_by opened b)
    → Alike s (calls_by opened a) (calls_by opened b) × (station_of (uses opened a) ≡ station_of (uses opened b))

-- however far the instructions are that wait or are stuck, what HoweverFar promises of those calls holds of the station in the room
abbrev pub RoomsHoweverFar : Type 0
RoomsHoweverFar =
    (room : List ℕ) → RoomBegun room → (l : List Use) → AllPassed l → NoStarts l
    → let s = station_of room in
    let c = calls_by room l in
    (calls s c ≡ station_of (uses room l))
    × ((p : List Moving) → Unheard s c p → LaidOutInFact s c p × CarsInFact s c p × AnyOrderInFact s c p × AllowedInFact s c p × HeardInFact s c p)

-- whatever entries came, station_start too, there is a way back from the station in the room
abbrev pub RoomsNeverLockUp : Type 0
RoomsNeverLockUp = (room : List ℕ) → RoomBegun room → (l : List Use) → AllPassed l → HasWayBack (station_of (uses room l))

-- from where a lent station begins, whatever entries follow on its room, none returns 16
abbrev pub LentNever : Type 0
LentNever =
    (room : List ℕ) → RoomBegun room → (l : List Use) → AllPassed l → (u : Use) → AsPassed u
    → (entry_used (uses room l) u).says % 256 ≡ 16 → ⊥
