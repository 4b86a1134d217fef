-- What is promised of lent stations, and of answers as numbers. Proved in proofs/Promises.antt. Assumes nothing.
use Rattle.std.specs.Prelude.{◌≡◌, List, ◌++◌, ℕ, ◌/◌, ◌%◌, ◌^◌, ◌≤◌, ◌<◌, length, take}
use Rattle.codec.specs.Bytes.{Bytes}
use Rattle.answers.specs.declared.Answer.{Answer}
use Rattle.answers.specs.Answers.{number_of, place_of, issue_of}
use Rattle.station.specs.declared.Station.{Station}
use Rattle.rooms.specs.Rooms.{station_size, station_bytes, station_of, returned}

-- a station as code holds it: the record is a number of 64 bits, the set has forty places, the next issue 16 bits, what is set apart 64
pub record StationTyped (s : Station) : Type 0 where
  pub image : s.bits < 2 ^ 64
  pub places : length s.set ≡ 40
  pub issue : s.next < 2 ^ 16
  pub apart : s.apart < 2 ^ 64

-- a station takes 60 bytes
abbrev pub StationFits : Type 0
StationFits = (s : Station) → StationTyped s → length (station_bytes s) ≡ station_size

-- a station that was written reads back, whatever stands past it
abbrev pub StationReadsBack : Type 0
StationReadsBack = (s : Station) (past : List ℕ) → StationTyped s → station_of (station_bytes s ++ past) ≡ s

-- the bytes of a room are those of the station that they hold
abbrev pub StationOneForm : Type 0
StationOneForm = (room : List ℕ) → Bytes room → station_size ≤ length room → station_bytes (station_of room) ≡ take station_size room

-- an answer's number reads back from what an entry says; where its place is a byte, so do the place and the issue
abbrev pub ReturnedReadsBack : Type 0
ReturnedReadsBack =
    (a : Answer)
    → (returned a % 256 ≡ number_of a)
    × (place_of a < 256 → (returned a / 256 % 256 ≡ place_of a) × (returned a / 65536 ≡ issue_of a))
