-- What is promised of lent totals, and of what the entries return. Proved in proofs/Promises.antt. Assumes nothing.
use Rattle.std.specs.Prelude.{◌≡◌, ◌⊎◌, List, ◌++◌, ℕ, ◌/◌, ◌%◌, ◌≤◌, length, get_or, take}
use Rattle.codec.specs.Bytes.{Bytes}
use Rattle.totals.specs.declared.Totals.{Totals}
use Rattle.totals.specs.Totals.{size, most_counted, counted_in}
use Rattle.week.specs.Weeks.{happened}
use Rattle.rooms.specs.Rooms.{station_size, station_of}
use Rattle.report_c.specs.Entries.{full_byte, totals_size, totals_bytes, totals_in, starting, counting, lining}

-- totals as code holds them: one for each place, none above the most
pub record TotalsTyped (t : Totals) : Type 0 where
  pub places : length t.counts ≡ size
  pub small : (p : ℕ) → get_or t.counts p 0 ≤ most_counted

-- totals take 208 bytes
abbrev pub TotalsFit : Type 0
TotalsFit = (t : Totals) → length (totals_bytes t) ≡ totals_size

-- totals that were written read back, whatever stands past them
abbrev pub TotalsReadBack : Type 0
TotalsReadBack = (t : Totals) (past : List ℕ) → TotalsTyped t → totals_in (totals_bytes t ++ past) ≡ t

-- the bytes of a room are those of the totals that they hold
abbrev pub TotalsOneForm : Type 0
TotalsOneForm = (room : List ℕ) → Bytes room → totals_size ≤ length room → totals_bytes (totals_in room) ≡ take totals_size room

-- whatever bytes a room has, they hold totals as code does
abbrev pub AnyBytesHold : Type 0
AnyBytesHold = (room : List ℕ) → Bytes room → TotalsTyped (totals_in room)

-- a message is counted: the room holds the totals in which it is, and the place that is told is that of the first that is full, or none
abbrev pub MessageCounted : Type 0
MessageCounted =
    (room station message : List ℕ) → Bytes room → totals_size ≤ length room → station_size ≤ length station
    → let c = counted_in (totals_in room) (happened (station_of station) message) in
    (totals_in (counting room station message).leaves ≡ c.totals) × ((counting room station message).says / 256 ≡ full_byte c.full)

-- an entry that refuses leaves the room as it was
abbrev pub ReportEntryUntouched : Type 0
ReportEntryUntouched =
    ((room : List ℕ) → ((starting room).says % 256 ≡ 0 → ⊥) → (starting room).leaves ≡ room)
    × ((room station message : List ℕ) → ((counting room station message).says % 256 ≡ 0 → ⊥) → (counting room station message).leaves ≡ room)
    × ((room : List ℕ) (full : ℕ) (out : List ℕ) → ((lining room full out).says % 256 ≡ 0 → ⊥) → (lining room full out).leaves ≡ out)

-- report_start returns 0 or 17, report_message 0, 17 or 40, report_lines 0, 4 or 17
abbrev pub ReportNumbersReturned : Type 0
ReportNumbersReturned =
    ((room : List ℕ) → let n = (starting room).says % 256 in (n ≡ 0) ⊎ (n ≡ 17))
    × ((room station message : List ℕ) → let n = (counting room station message).says % 256 in (n ≡ 0) ⊎ (n ≡ 17) ⊎ (n ≡ 40))
    × ((room : List ℕ) (full : ℕ) (out : List ℕ) → let n = (lining room full out).says % 256 in (n ≡ 0) ⊎ (n ≡ 4) ⊎ (n ≡ 17))
