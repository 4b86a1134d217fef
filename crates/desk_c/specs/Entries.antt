-- A desk in bytes, and what the entries for a host in C or Rust answer and leave in the room that is lent to them. Assumes nothing.
use Rattle.std.specs.Prelude.{cond, ◌||◌, List, [], ◌∷◌, ◌++◌, ℕ, ◌+◌, ◌*◌, ◌-◌, eqb, ltb, length, take, drop, replicate}
use Rattle.codec.specs.Bytes.{little_endian}
use Rattle.answers.specs.declared.Answer.TheVariants.{Taken, TooFewBytes, NoRoom, Unfit}
use Rattle.answers.specs.Answers.{nowhere}
use Rattle.rules.specs.Codes.{most_in_set}
use Rattle.wire.specs.Kinds.{set_of}
use Rattle.codec.specs.Fours.{fours_in, fours_bytes}
use Rattle.rooms.specs.Rooms.{station_size, station_bytes, station_of, image_bytes, returned, Entry, writes, no_room, telling}
use Rattle.desk.specs.declared.Desk.{Desk}
use Rattle.desk.specs.declared.DeskOutcome.{DeskOutcome}
use Rattle.desk.specs.declared.Reply.{Reply}
use Rattle.desk.specs.declared.Reply.TheVariants.{Told}
use Rattle.desk.specs.declared.Whereabouts.{Whereabouts}
use Rattle.std.specs.declared.option.Option.{Option}
use Rattle.std.specs.declared.option.Option.TheVariants.{Some, None}
use Rattle.std.specs.declared.result.Result.{Result}
use Rattle.std.specs.declared.result.Result.TheVariants.{Ok, Err}
use Rattle.desk.specs.declared.AskError.{AskError}
use Rattle.desk.specs.declared.OpenSet.{OpenSet}
use Rattle.desk.specs.declared.Comparison.{Comparison}
use Rattle.desk.specs.Desk.{reply_number, reply_place, reply_issue}
use Rattle.desk.specs.Calls.{desk_refused, desk_request, desk_take_image, desk_ask}
use Rattle.desk.specs.Questions.{whereabouts, leaving}
use Rattle.desk.specs.Lines.{held_lines, listed_cars, outstanding, compared}

-- ---- a desk in bytes

-- how many numbers a desk has, and how many bytes it takes
abbrev pub desk_numbers : ℕ
desk_numbers = 42

abbrev pub desk_size : ℕ
desk_size = 228

-- its station, then its numbers
unfoldable pub desk_bytes : Desk → List ℕ
desk_bytes d = station_bytes d.station ++ fours_bytes desk_numbers d.numbers

-- the desk that the first 228 bytes hold
unfoldable pub desk_of : List ℕ → Desk
desk_of m = record { station = station_of m; numbers = fours_in desk_numbers (drop station_size m) }

-- ---- what an entry does

-- a reply as one number, as the station's entries have it
abbrev pub replied : Reply → ℕ
replied a = reply_number a + 256 * reply_place a + 65536 * reply_issue a

-- taken, it writes these bytes at the start of the room and keeps what stands past them; refused, it writes nothing
unfoldable pub shows : Reply → List ℕ → List ℕ → Entry
shows a bytes room = record { says = replied a; leaves = cond (eqb (reply_number a) 0) (bytes ++ drop (length bytes) room) room }

-- a call on the lent desk: 17, then the call's own answers
unfoldable pub desk_entry : (Desk → DeskOutcome) → List ℕ → Entry
desk_entry call room =
    let o = call (desk_of room) in
    cond (ltb (length room) desk_size) (no_room room) (shows o.reply (desk_bytes o.desk) room)

-- how many bytes so many things are lent in, if they are at most so many: of more none is looked at
abbrev pub lent_bytes : ℕ → ℕ → ℕ → ℕ
lent_bytes at_most each n = cond (ltb at_most n) 0 (each * n)

-- a request of n instructions whose set is lent as a run of bytes, five each: 1 where it is shorter than that
unfoldable pub desk_request_of : ℕ → List ℕ → Desk → DeskOutcome
desk_request_of n set d =
    let size = lent_bytes most_in_set 5 n in
    cond (ltb (length set) size) (desk_refused d (Told TooFewBytes)) (desk_request d n (set_of (take size set)))

-- the most numbers that an image can come with
abbrev pub most_numbers : ℕ
most_numbers = 31

-- the numbers that some bytes say, 31 with zeros behind them
abbrev pub numbers_of : List ℕ → List ℕ
numbers_of run = fours_in most_numbers (run ++ replicate (4 * most_numbers - length run) 0)

-- an image whose n numbers are lent as a run of bytes, four each: 1 where it is shorter than that
unfoldable pub desk_image_of : ℕ → ℕ → ℕ → List ℕ → Desk → DeskOutcome
desk_image_of r apart n run d =
    let size = lent_bytes most_numbers 4 n in
    cond (ltb (length run) size) (desk_refused d (Told TooFewBytes)) (desk_take_image d (record { bits = r; apart = apart }) n (numbers_of (take size run)))

-- ---- questions

-- the record is asked for: it is written to a room of its own, with what is set apart behind it
unfoldable pub desk_asking : List ℕ → List ℕ → Entry
desk_asking room image =
    let d = desk_of room in
    cond (ltb (length room) desk_size || ltb (length image) 16) (no_room image)
    (shows (desk_ask d).reply (image_bytes d.station.bits d.station.apart) image)

-- where a card's car is, as one number: its place, and 65536 where it is the last known one, or twice that and the place that it would get
-- where it is in motion; 255 where it is not here
abbrev pub where_said : Result Whereabouts AskError → ℕ
where_said (Ok (Whereabouts.At k)) = 256 * k
where_said (Ok (Whereabouts.LastKnown k)) = 256 * k + 65536
where_said (Ok (Whereabouts.Moving k j)) = 256 * k + 131072 + 16777216 * j
where_said (Ok Whereabouts.NotHere) = 256 * nowhere
where_said (Err AskError.Unfit) = returned Unfit

unfoldable pub finding : List ℕ → ℕ → ℕ
finding room c = cond (ltb (length room) desk_size) (returned NoRoom) (where_said (whereabouts (desk_of room) c))

-- which card is leaving: its number's four bytes are written to a room of their own, those of 0 where none is
abbrev pub leaving_entry : Result (Option ℕ) AskError → List ℕ → Entry
leaving_entry (Ok (Some c)) out = writes Taken (little_endian 4 c) out
leaving_entry (Ok None) out = writes Taken (little_endian 4 0) out
leaving_entry (Err AskError.Unfit) out = writes Unfit (little_endian 4 0) out

unfoldable pub parting : List ℕ → List ℕ → Entry
parting room out = cond (ltb (length room) desk_size || ltb (length out) 4) (no_room out) (leaving_entry (leaving (desk_of room)) out)

-- ---- all cars, what is outstanding, and what an image would change

-- how many bytes all cars are told in, eight each: a garage has at most 31
abbrev pub list_size : ℕ
list_size = 248

-- a reply with n lines: taken, how many they are is at the place of an answer
unfoldable pub count_told : Reply → ℕ → ℕ
count_told a n = cond (eqb (reply_number a) 0) (256 * n) (replied a)

-- every car of a desk, to a room of its own
unfoldable pub listing : List ℕ → List ℕ → Entry
listing room out =
    let d = desk_of room in
    let all = held_lines (listed_cars d) in
    cond (ltb (length room) desk_size) (no_room out) (telling (count_told (desk_ask d).reply all.count) (take list_size all.bytes) out)

-- what is outstanding in bytes: the issue, how many instructions there are, which are answered, and the set
abbrev pub open_bytes : OpenSet → List ℕ
open_bytes o = little_endian 2 o.issue ++ (o.count ∷ o.answered ∷ o.set)

-- it is written to a room of its own
unfoldable pub open_shown : List ℕ → List ℕ → Entry
open_shown room out =
    let d = desk_of room in
    cond (ltb (length room) desk_size || ltb (length out) 44) (no_room out) (shows (desk_ask d).reply (open_bytes (outstanding d)) out)

-- an image whose n numbers are lent as a run of bytes is compared: 1 where it is shorter than that
unfoldable pub comparison_of : ℕ → ℕ → ℕ → List ℕ → Desk → Comparison
comparison_of r apart n run d =
    let size = lent_bytes most_numbers 4 n in
    cond (ltb (length run) size) (record { reply = Told TooFewBytes; lines = held_lines [] })
    (compared d (record { bits = r; apart = apart }) n (numbers_of (take size run)))

-- what it would change, to a room of its own
unfoldable pub comparing : (Desk → Comparison) → List ℕ → List ℕ → Entry
comparing compare room out =
    let c = compare (desk_of room) in
    cond (ltb (length room) desk_size) (no_room out) (telling (count_told c.reply c.lines.count) c.lines.bytes out)
