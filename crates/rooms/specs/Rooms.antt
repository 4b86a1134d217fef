-- What the entries for C share: a station in bytes, an answer as one number, and what an entry leaves in the room that is lent to it.
-- Assumes nothing.
use Rattle.std.specs.Prelude.{◌≡◌, cond, ◌&&◌, List, ◌∷◌, ◌++◌, ℕ, ◌+◌, ◌*◌, ◌%◌, eqb, leb, ltb, length, get_or, take, drop}
use Rattle.codec.specs.Bytes.{little_endian, from_little_endian}
use Rattle.rules.specs.Codes.{most_in_set}
use Rattle.answers.specs.declared.Answer.{Answer}
use Rattle.answers.specs.declared.Answer.TheVariants.{TooFewBytes, NoRoom}
use Rattle.answers.specs.Answers.{number_of, place_of, issue_of}
use Rattle.station.specs.declared.Station.{Station}
use Rattle.station.specs.declared.Outcome.{Outcome}
use Rattle.station.specs.Station.{closed}
use Rattle.station.specs.Calls.{refused, request}

-- ---- a station in bytes

-- how many bytes a station takes
abbrev pub station_size : ℕ
station_size = 60

-- its record, how many instructions the outstanding set has, their marks, the set, the issue of the next one, and what is set apart
unfoldable pub station_bytes : Station → List ℕ
station_bytes s =
    little_endian 8 s.bits ++ (s.count ∷ s.answered ∷ (s.set ++ (little_endian 2 s.next ++ little_endian 8 s.apart)))

-- the station that the first 60 bytes hold
unfoldable pub station_of : List ℕ → Station
station_of m =
    record {
      bits = from_little_endian 8 0 m;
      count = get_or m 8 0;
      answered = get_or m 9 0;
      set = take 40 (drop 10 m);
      next = from_little_endian 2 50 m;
      apart = from_little_endian 8 52 m;
    }

-- the station that a room holds; in one that is too short none stands, and one of zeros, which is not fit, is taken for it
unfoldable pub lent_station : List ℕ → Station
lent_station m = cond (ltb (length m) station_size) (closed 0 0 0) (station_of m)

-- an image in bytes: the record, then what is set apart
abbrev pub image_bytes : ℕ → ℕ → List ℕ
image_bytes r apart = little_endian 8 r ++ little_endian 8 apart

-- ---- what an entry does

-- an answer as one number: that of the table, 256 times its place, and 65536 times the issue that it carries
abbrev pub returned : Answer → ℕ
returned a = number_of a + 256 * place_of a + 65536 * issue_of a

-- what an entry answers, and what it leaves in the room that it may write
pub record Entry : Type 0 where
  pub says : ℕ
  pub leaves : List ℕ

-- what an entry says is returned, and what it leaves is left
abbrev pub LeavesRoom : Entry → ℕ → List ℕ → Type 0
LeavesRoom e r room = (r ≡ e.says) × (room ≡ e.leaves)

-- taken, it writes these bytes at the start of the room and keeps what stands past them; refused, it writes nothing
unfoldable pub writes : Answer → List ℕ → List ℕ → Entry
writes a bytes room = record { says = returned a; leaves = cond (eqb (number_of a) 0) (bytes ++ drop (length bytes) room) room }

-- the room is too short
abbrev pub no_room : List ℕ → Entry
no_room room = record { says = returned NoRoom; leaves = room }

-- a number is said, and where it says "taken" these bytes are written at the start of the room; where they don't fit, 17 is, and none
unfoldable pub telling : ℕ → List ℕ → List ℕ → Entry
telling n bytes room =
    cond (ltb (length room) (length bytes)) (no_room room)
    (record { says = n; leaves = cond (eqb (n % 256) 0) (bytes ++ drop (length bytes) room) room })

-- a call's outcome is told: 17 where the room is too short for a station, then its own answer
unfoldable pub outcome_kept : Outcome → List ℕ → Entry
outcome_kept o room = cond (ltb (length room) station_size) (no_room room) (writes o.answer (station_bytes o.station) room)

-- a call on the lent station: 17, then the call's own answers
unfoldable pub entry : (Station → Outcome) → List ℕ → Entry
entry call room =
    let o = call (station_of room) in
    cond (ltb (length room) station_size) (no_room room) (writes o.answer (station_bytes o.station) room)

-- a request whose set is lent as a run of bytes: 1 where it is shorter than its count says; what stands past its instructions is not looked at
unfoldable pub request_of : ℕ → List ℕ → Station → Outcome
request_of n set s = cond (leb n most_in_set && ltb (length set) (5 * n)) (refused s TooFewBytes) (request s n (take (5 * n) set))

-- how many bytes a request of n instructions asks for: five each, and none where they are too many
abbrev pub bytes_asked : ℕ → ℕ
bytes_asked n = cond (ltb most_in_set n) 0 (5 * n)
