-- What is promised of lent desks, and of what the entries return. Proved in proofs/Promises.antt. Assumes nothing.
use Rattle.std.specs.Prelude.{◌≡◌, ◌⊎◌, List, ◌++◌, ℕ, ◌/◌, ◌%◌, ◌^◌, ◌≤◌, ◌<◌, length, get_or, take}
use Rattle.codec.specs.Bytes.{Bytes}
use Rattle.answers.specs.Answers.{OfTable}
use Rattle.rooms.specs.Promises as station
use Rattle.desk.specs.declared.Desk.{Desk}
use Rattle.desk.specs.declared.DeskOutcome.{DeskOutcome}
use Rattle.desk.specs.declared.Reply.{Reply}
use Rattle.desk.specs.declared.Comparison.{Comparison}
use Rattle.std.specs.declared.result.Result.{Result}
use Rattle.std.specs.declared.result.Result.TheVariants.{Ok, Err}
use Rattle.desk.specs.declared.AskError.{AskError}
use Rattle.desk.specs.declared.Whereabouts.{Whereabouts}
use Rattle.desk.specs.declared.Whereabouts.TheVariants.{At, LastKnown, Moving, NotHere}
use Rattle.desk.specs.Desk.{reply_number, reply_place, reply_issue}
use Rattle.desk_c.specs.Entries.{desk_numbers, desk_size, desk_bytes, desk_of, replied, desk_entry, desk_asking, where_said, finding, parting, listing, open_shown, comparing}

-- a desk as code holds it: its station is, and it has 42 numbers of 32 bits
pub record DeskTyped (d : Desk) : Type 0 where
  pub station : station.StationTyped d.station
  pub places : length d.numbers ≡ desk_numbers
  pub small : (p : ℕ) → get_or d.numbers p 0 < 2 ^ 32

-- a desk takes 228 bytes
abbrev pub DeskFits : Type 0
DeskFits = (d : Desk) → DeskTyped d → length (desk_bytes d) ≡ desk_size

-- a desk that was written reads back, whatever stands past it
abbrev pub DeskReadsBack : Type 0
DeskReadsBack = (d : Desk) (past : List ℕ) → DeskTyped d → desk_of (desk_bytes d ++ past) ≡ d

-- the bytes of a room are those of the desk that they hold
abbrev pub DeskOneForm : Type 0
DeskOneForm = (room : List ℕ) → Bytes room → desk_size ≤ length room → desk_bytes (desk_of room) ≡ take desk_size room

-- a reply's number reads back from what an entry says; where its place is a byte, so do the place and the issue
abbrev pub RepliedReadsBack : Type 0
RepliedReadsBack =
    (a : Reply)
    → (replied a % 256 ≡ reply_number a)
    × (reply_place a < 256 → (replied a / 256 % 256 ≡ reply_place a) × (replied a / 65536 ≡ reply_issue a))

-- places that can be told: below 255
abbrev pub Within255 : Result Whereabouts AskError → Type 0
Within255 (Ok (At k)) = k < 255
Within255 (Ok (LastKnown k)) = k < 255
Within255 (Ok (Moving k j)) = (k < 255) × (j < 255)
Within255 (Ok NotHere) = Unit {0}
Within255 (Err AskError.Unfit) = Unit {0}

-- where a card's car is reads back: a place below 255 is told apart from none, and for sure from the last known and from one in motion
abbrev pub WhereReadsBack : Type 0
WhereReadsBack = (w x : Result Whereabouts AskError) → Within255 w → Within255 x → where_said w ≡ where_said x → w ≡ x

-- an entry that refuses leaves the room as it was
abbrev pub DeskEntryUntouched : Type 0
DeskEntryUntouched =
    ((call : Desk → DeskOutcome) (room : List ℕ) → ((desk_entry call room).says % 256 ≡ 0 → ⊥) → (desk_entry call room).leaves ≡ room)
    × ((room image : List ℕ) → ((desk_asking room image).says % 256 ≡ 0 → ⊥) → (desk_asking room image).leaves ≡ image)
    × ((room out : List ℕ) → ((parting room out).says % 256 ≡ 0 → ⊥) → (parting room out).leaves ≡ out)
    × ((room out : List ℕ) → ((listing room out).says % 256 ≡ 0 → ⊥) → (listing room out).leaves ≡ out)
    × ((room out : List ℕ) → ((open_shown room out).says % 256 ≡ 0 → ⊥) → (open_shown room out).leaves ≡ out)
    × ((compare : Desk → Comparison) (room out : List ℕ) → ((comparing compare room out).says % 256 ≡ 0 → ⊥) → (comparing compare room out).leaves ≡ out)

-- a number of the station's table, or one of the desk's own
abbrev pub OfDesk : ℕ → Type 0
OfDesk n = OfTable n ⊎ ((37 ≤ n) × (n ≤ 39))

-- an entry returns a number of the table or 37 to 39, and the questions for one card 0, 16 or 17
abbrev pub DeskNumbersReturned : Type 0
DeskNumbersReturned =
    ((call : Desk → DeskOutcome) (room : List ℕ) → OfDesk ((desk_entry call room).says % 256))
    × ((room image : List ℕ) → OfDesk ((desk_asking room image).says % 256))
    × ((room : List ℕ) (c : ℕ) → let n = finding room c % 256 in (n ≡ 0) ⊎ (n ≡ 16) ⊎ (n ≡ 17))
    × ((room out : List ℕ) → let n = (parting room out).says % 256 in (n ≡ 0) ⊎ (n ≡ 16) ⊎ (n ≡ 17))
    × ((room out : List ℕ) → OfDesk ((listing room out).says % 256))
    × ((room out : List ℕ) → OfDesk ((open_shown room out).says % 256))
    × ((compare : Desk → Comparison) (room out : List ℕ) → OfDesk ((comparing compare room out).says % 256))
