-- The report's totals as bytes, and what the entries that keep them for a host in C answer and leave. Assumes nothing.
use Rattle.std.specs.Prelude.{Bool, cond, not, ◌||◌, List, ◌++◌, ℕ, ◌+◌, ◌*◌, eqb, ltb, length, drop, is_none}
use Rattle.std.specs.declared.option.Option.{Option}
use Rattle.std.specs.declared.option.Option.TheVariants.{Some, None}
use Rattle.answers.specs.declared.Answer.TheVariants.{Taken, BadField}
use Rattle.answers.specs.Answers.{nowhere}
use Rattle.codec.specs.Fours.{fours_in, fours_bytes}
use Rattle.totals.specs.declared.Totals.{Totals}
use Rattle.totals.specs.declared.Tally.{Tally}
use Rattle.totals.specs.Totals.{size, totals_of, counted_in, blank}
use Rattle.report_text.specs.Lines.{report_of}
use Rattle.week.specs.Weeks.{happened}
use Rattle.rooms.specs.Rooms.{station_size, station_of, returned, Entry, writes, no_room}

-- ---- totals in bytes

-- how many bytes they take
abbrev pub totals_size : ℕ
totals_size = 208

-- four for each, the lowest first, in the report's order
unfoldable pub totals_bytes : Totals → List ℕ
totals_bytes t = fours_bytes size t.counts

-- the totals that the first 208 bytes hold
unfoldable pub totals_in : List ℕ → Totals
totals_in m = totals_of (fours_in size m)

-- ---- what an entry answers, and what it leaves in the room that it may write

-- the totals of a new report: 17 where the room is too short
unfoldable pub starting : List ℕ → Entry
starting room = cond (ltb (length room) totals_size) (no_room room) (writes Taken (totals_bytes blank) room)

-- the number of the answer that a total is full
abbrev pub full_number : ℕ
full_number = 40

-- the number that stands for no total
abbrev pub no_total : ℕ
no_total = 255

-- the total that is full, or none, as a number
abbrev pub full_byte : Option ℕ → ℕ
full_byte None = no_total
full_byte (Some place) = place

-- and by such a number
abbrev pub full_by : ℕ → Option ℕ
full_by full = cond (eqb full no_total) None (Some full)

-- totals in which something was counted are written; where one is full that is said with its place, and nothing is written
unfoldable pub tallied : Tally → List ℕ → Entry
tallied c room =
    cond (is_none c.full) (writes Taken (totals_bytes c.totals) room) (record { says = full_number + 256 * full_byte c.full; leaves = room })

-- the first message of some bytes is counted, by what it does on the lent station: 17 where either room is too short, then as above
unfoldable pub counting : List ℕ → List ℕ → List ℕ → Entry
counting room station message =
    cond (ltb (length room) totals_size || ltb (length station) station_size) (no_room room)
    (tallied (counted_in (totals_in room) (happened (station_of station) message)) room)

-- which total is full: a place of the totals, or none
abbrev pub known_full : ℕ → Bool
known_full full = ltb full size || eqb full no_total

-- a text is written: 17 where the room is too short; else how long it is, 65536 times
unfoldable pub texting : List ℕ → List ℕ → Entry
texting text out =
    cond (ltb (length out) (length text)) (no_room out)
    (record { says = returned Taken + 65536 * length text; leaves = text ++ drop (length text) out })

-- the report's text: 4 where what is full is neither a place nor none, then 17 where either room is too short
unfoldable pub lining : List ℕ → ℕ → List ℕ → Entry
lining room full out =
    cond (not (known_full full)) (record { says = returned (BadField nowhere); leaves = out })
    (cond (ltb (length room) totals_size) (no_room out) (texting (report_of (totals_in room) (full_by full)) out))
