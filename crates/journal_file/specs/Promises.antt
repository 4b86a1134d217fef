-- What is promised of a journal's bytes. Proved in proofs/. Assumes nothing.
use Rattle.std.specs.Prelude.{◌≡◌, ◌⊎◌, true, false, List, ◌++◌, ℕ, ◌+◌, ◌-◌, ◌%◌, ◌^◌, ◌≤◌, ◌<◌, length, get_or, take, replicate}
use Rattle.codec.specs.Bytes.{Bytes}
use Rattle.station.specs.declared.Station.{Station}
use Rattle.station.specs.Station.{fit}
use Rattle.rooms.specs.Promises.{StationTyped}
use Rattle.checksum.specs.Checksum.{crc_over}
use Rattle.checksum.specs.Slices.{slices, crc_by}
use Rattle.journal_file.specs.declared.Kind.TheVariants.{Good}
use Rattle.journal_file.specs.Heads.{head_sum, head_bytes, head_of}
use Rattle.journal_file.specs.Appends.{most_carried, around, sum_after, append_of, carried_of, payload_of, no_front, front_of, sector, zeroed}

-- an append that was written reads back, whatever stands behind it
abbrev pub AppendReadsBack : Type 0
AppendReadsBack =
    (sum kind : ℕ) (bytes past : List ℕ) → sum < 2 ^ 32 → length bytes ≤ most_carried
    → front_of crc_over sum (append_of crc_over sum kind bytes ++ past)
    ≡ record { whole = true; short = false; kind = kind; carries = length bytes; sum = sum_after crc_over sum kind bytes }

-- an append that is whole is the one that is written for what it carries: it has one form
abbrev pub AppendOneForm : Type 0
AppendOneForm =
    (sum : ℕ) (m : List ℕ) → Bytes m → (front_of crc_over sum m).whole ≡ true
    → take (carried_of m + around) m ≡ append_of crc_over sum (get_or m 0 0) (payload_of m)

-- by the tables the code finds what the checksum's own definition finds
abbrev pub FrontByTables : Type 0
FrontByTables = (sum : ℕ) (m : List ℕ) → sum < 2 ^ 32 → Bytes m → front_of (crc_by slices) sum m ≡ front_of crc_over sum m

-- a head that was written reads back, whatever stands behind it: the station that it begins with, if that is fit
abbrev pub HeadReadsBack : Type 0
HeadReadsBack =
    (name : List ℕ) (s : Station) (past : List ℕ) → length name ≡ 40 → StationTyped s → fit s ≡ true
    → head_of crc_over (head_bytes crc_over name s ++ past) ≡ record { kind = Good; station = s; sum = head_sum crc_over name s }

-- ---- what a lost power supply leaves of an append is never taken for damage

-- an append that the file ends inside of is told as cut off
abbrev pub CutAppend : Type 0
CutAppend =
    (sum kind n : ℕ) (bytes : List ℕ) → sum < 2 ^ 32 → length bytes ≤ most_carried → n < length (append_of crc_over sum kind bytes)
    → front_of crc_over sum (take n (append_of crc_over sum kind bytes)) ≡ no_front true

-- one of which a sector, or all, did not come to the disk
abbrev pub zeros_from : ℕ → List ℕ → List ℕ
zeros_from n m = take n m ++ replicate (length m - n) 0

-- an append that is zeros from its start or from a sector on is not whole, and was cut off
abbrev pub ZeroedAppend : Type 0
ZeroedAppend =
    (sum kind at n : ℕ) (bytes : List ℕ) → sum < 2 ^ 32 → length bytes ≤ most_carried → n < length (append_of crc_over sum kind bytes)
    → (n ≡ 0) ⊎ ((at + n) % sector ≡ 0)
    → let m = zeros_from n (append_of crc_over sum kind bytes) in
    ((front_of crc_over sum m).whole ≡ false) × (zeroed crc_over sum at m ≡ true)
