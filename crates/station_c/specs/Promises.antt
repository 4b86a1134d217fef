-- What is promised of the entries. Proved in proofs/Promises.antt. Assumes nothing.
use Rattle.std.specs.Prelude.{◌≡◌, not, cond, List, ℕ, ◌/◌, ◌%◌, ◌^◌, ◌<◌, eqb}
use Rattle.std.specs.Int.Bits.{bit_and}
use Rattle.codec.specs.Bytes.{from_little_endian}
use Rattle.answers.specs.declared.Answer.TheVariants.{Taken, Overlap}
use Rattle.answers.specs.Answers.{number_of, OfTable}
use Rattle.station.specs.declared.Station.{Station}
use Rattle.station.specs.declared.Outcome.{Outcome}
use Rattle.station.specs.Held.{touches}
use Rattle.rooms.specs.Rooms.{returned, entry}
use Rattle.rooms.specs.Questions.{request_answer, nexting}
use Rattle.station_c.specs.Entries.{asking, exchange}
use Rattle.station_c.specs.Sets.{area_into, pair_answer}

-- an entry that refuses leaves the room as it was
abbrev pub StationEntryUntouched : Type 0
StationEntryUntouched = (call : Station → Outcome) (room : List ℕ) → ((entry call room).says % 256 ≡ 0 → ⊥) → (entry call room).leaves ≡ room

-- an ask that refuses leaves the image's room as it was
abbrev pub AskRefusedUntouched : Type 0
AskRefusedUntouched = (room image : List ℕ) → ((asking room image).says % 256 ≡ 0 → ⊥) → (asking room image).leaves ≡ image

-- a question for the next record that refuses leaves the room as it was
abbrev pub NextRefusedUntouched : Type 0
NextRefusedUntouched = (r : ℕ) (five room : List ℕ) → ((nexting r five room).says % 256 ≡ 0 → ⊥) → (nexting r five room).leaves ≡ room

-- a question for an area that refuses leaves the room as it was
abbrev pub AreaRefusedUntouched : Type 0
AreaRefusedUntouched = (five room : List ℕ) → ((area_into five room).says % 256 ≡ 0 → ⊥) → (area_into five room).leaves ≡ room

-- a message that is refused leaves the station's room as it was; where 17 is returned the reply's is as it was too, else it has the refusal
abbrev pub MessageRefusedUntouched : Type 0
MessageRefusedUntouched =
    (room message reply : List ℕ) → ((exchange room message reply).says % 256 ≡ 0 → ⊥)
    → ((exchange room message reply).station ≡ room) × ((exchange room message reply).says % 256 ≡ 17 → (exchange room message reply).reply ≡ reply)

-- the number that an entry returns is always one of the table's
abbrev pub NumbersInTable : Type 0
NumbersInTable =
    ((call : Station → Outcome) (room : List ℕ) → OfTable ((entry call room).says % 256))
    × ((room image : List ℕ) → OfTable ((asking room image).says % 256))
    × ((room message reply : List ℕ) → OfTable ((exchange room message reply).says % 256))
    × ((r : ℕ) (five : List ℕ) → OfTable (returned (request_answer r five) % 256))
    × ((r : ℕ) (five room : List ℕ) → OfTable ((nexting r five room).says % 256))
    × ((five room : List ℕ) → OfTable ((area_into five room).says % 256))
    × ((one other : List ℕ) → OfTable (returned (pair_answer one other) % 256))

-- ---- questions for building sets

-- which of two stands first makes no difference to the number
abbrev pub PairEitherWay : Type 0
PairEitherWay = (one other : List ℕ) → number_of (pair_answer one other) ≡ number_of (pair_answer other one)

-- the number that stands in the first eight bytes of a room, as a planner reads an area
abbrev pub read_area : List ℕ → ℕ
read_area room = from_little_endian 8 0 room

-- of two instructions whose areas are written the question says 8, at the second, exactly if a bit is in both areas, and else 0
abbrev pub PairByAreas : Type 0
PairByAreas =
    (one other room room' : List ℕ) → (area_into one room).says % 256 ≡ 0 → (area_into other room').says % 256 ≡ 0
    → let shared = bit_and (read_area (area_into one room).leaves) (read_area (area_into other room').leaves) in
    pair_answer one other ≡ cond (eqb shared 0) Taken (Overlap 1)

-- an instruction touches a part that is set apart exactly if its area and the number that shows these share a bit; no fit station's number
-- has one above the lift's
abbrev pub TouchesByArea : Type 0
TouchesByArea =
    (five room : List ℕ) (apart : ℕ) → apart < 2 ^ 53 → (area_into five room).says % 256 ≡ 0
    → touches five apart 0 ≡ not (eqb (bit_and (read_area (area_into five room).leaves) apart) 0)
