-- What is promised of the rooms of a report that a host in C keeps beside its station. Proved in proofs/. Assumes nothing.
use Rattle.std.specs.Prelude.{◌≡◌, true, List, [], map, ℕ, ◌≤◌, length}
use Rattle.bits.specs.Places.{join}
use Rattle.station.specs.Station.{start_of}
use Rattle.journal.specs.Journal.{Messages, station_after_messages}
use Rattle.totals.specs.Totals.{blank, counted_all}
use Rattle.week.specs.Weeks.{week_of}
use Rattle.report_text.specs.Lines.{report_of}
use Rattle.rooms.specs.Rooms.{station_size, station_of}
use Rattle.report_c.specs.Entries.{totals_size, texting, lining}
use Rattle.entries_laws.specs.Uses.{message, roomy}
use Rattle.report_laws.specs.Rounds.{Told, new_report, tell_all, StationsLent, room_tally, happened_to, host_begun, Round, rounds, Answered, messages_in, happened_in}

-- after report_start and any calls of report_message, on whatever stations are lent with them, the room holds the totals of what those
-- messages do there; from the first that would make a total pass the most, it holds the totals before that message, and the host has that
-- total's place
abbrev pub RoomCountsEach : Type 0
RoomCountsEach =
    (room : List ℕ) → totals_size ≤ length room → (xs : List Told) → StationsLent xs
    → room_tally (tell_all (new_report room) xs) ≡ counted_all blank (map happened_to xs)

-- after report_start, station_start and any rounds of report_message and station_message, the report's room holds the totals of all those
-- messages, each by what the station answered to it from its start on, or says which total is full; and the station's room holds the
-- station after them
abbrev pub RoomsCountTheWeek : Type 0
RoomsCountTheWeek =
    (totals station : List ℕ) → totals_size ≤ length totals → station_size ≤ length station → (rs : List Round)
    → let h = host_begun totals station in
    Answered h rs
    → (room_tally (rounds h rs).report ≡ counted_all blank (happened_in start_of (messages_in rs)))
    × (station_of (rounds h rs).station ≡ station_after_messages start_of (messages_in rs))

-- where each message is a whole one and nothing follows it, the room holds the week of the same messages recorded one behind the other
abbrev pub RoomsHoldTheWeek : Type 0
RoomsHoldTheWeek =
    (totals station : List ℕ) → totals_size ≤ length totals → station_size ≤ length station → (rs : List Round)
    → let h = host_begun totals station in
    Answered h rs → Messages (messages_in rs) → room_tally (rounds h rs).report ≡ week_of (join (messages_in rs))

-- report_lines, with the place that the host has, writes the text of that week
abbrev pub RoomsTellTheWeek : Type 0
RoomsTellTheWeek =
    (totals station : List ℕ) → totals_size ≤ length totals → station_size ≤ length station → (rs : List Round)
    → let h = host_begun totals station in
    Answered h rs → Messages (messages_in rs) → (out : List ℕ)
    → let r = (rounds h rs).report in
    let week = week_of (join (messages_in rs)) in
    lining r.room r.full out ≡ texting (report_of week.totals week.full) out

-- twenty bytes are room for every reply
abbrev pub ReplyFits : Type 0
ReplyFits = (station m out : List ℕ) → 20 ≤ length out → roomy station (message m out) ≡ true
