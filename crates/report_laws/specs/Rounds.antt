-- A host in C that keeps a report beside its station, as include/report.h shows it: the rooms that it lends, and the two calls that it makes
-- for each message. Read `HostReport` and `tell` first: they are report_message; `round` is both calls. Assumes nothing.
use Rattle.std.specs.Prelude.{◌≡◌, true, cond, List, [], ◌∷◌, map, ℕ, ◌/◌, ◌%◌, ◌≤◌, eqb, length}
use Rattle.codec.specs.Bytes.{Bytes}
use Rattle.station.specs.declared.Station.{Station}
use Rattle.service.specs.Service.{respond}
use Rattle.totals.specs.declared.Happened.{Happened}
use Rattle.totals.specs.declared.Tally.{Tally}
use Rattle.week.specs.Weeks.{happened}
use Rattle.rooms.specs.Rooms.{station_size, station_of}
use Rattle.station_c.specs.Entries.{exchange}
use Rattle.report_c.specs.Entries.{no_total, full_by, totals_in, starting, counting}
use Rattle.entries_laws.specs.Uses.{start, message, entry_used, roomy}

-- ---- the report alone

-- what the host has of its report: the room of totals, and the place of the total that report_message returned as full, or the number of none
pub record HostReport : Type 0 where
  pub room : List ℕ
  pub full : ℕ

-- after report_start
abbrev pub new_report : List ℕ → HostReport
new_report room = record { room = (starting room).leaves; full = no_total }

-- a message, and the station's room that is lent with it
pub record Told : Type 0 where
  pub station : List ℕ
  pub message : List ℕ

-- report_message, and the place that it returns; once a total is full the host counts no more
abbrev pub tell : HostReport → Told → HostReport
tell r x =
    let e = counting r.room x.station x.message in
    cond (eqb r.full no_total) (record { room = e.leaves; full = e.says / 256 % 256 }) r

-- one after the other
abbrev pub tell_all : HostReport → List Told → HostReport
tell_all r [] = r
tell_all r (x ∷ xs) = tell_all (tell r x) xs

-- each station's room has the bytes that a station takes
abbrev pub StationsLent : List Told → Type 0
StationsLent [] = Unit {0}
StationsLent (x ∷ xs) = (station_size ≤ length x.station) × StationsLent xs

-- the totals that the room holds, and which of them is full
abbrev pub room_tally : HostReport → Tally
room_tally r = record { totals = totals_in r.room; full = full_by r.full }

-- what a message does on the station that is lent with it
abbrev pub happened_to : Told → Happened
happened_to x = happened (station_of x.station) x.message

-- ---- the report beside a station

-- the rooms of both
pub record Host : Type 0 where
  pub report : HostReport
  pub station : List ℕ

-- after report_start and station_start, whatever bytes were in the rooms before
abbrev pub host_begun : List ℕ → List ℕ → Host
host_begun totals station = record { report = new_report totals; station = (entry_used station start).leaves }

-- a message, and the room for its reply
pub record Round : Type 0 where
  pub message : List ℕ
  pub reply : List ℕ

-- report_message, and then station_message with the same bytes
abbrev pub round : Host → Round → Host
round h r =
    record {
      report = tell h.report (record { station = h.station; message = r.message });
      station = (exchange h.station r.message r.reply).station;
    }

-- one round after the other
abbrev pub rounds : Host → List Round → Host
rounds h [] = h
rounds h (r ∷ rs) = rounds (round h r) rs

-- each message is bytes, and its reply has room
abbrev pub Answered : Host → List Round → Type 0
Answered h [] = Unit {0}
Answered h (r ∷ rs) =
    Bytes r.message × (roomy h.station (message r.message r.reply) ≡ true) × Answered (round h r) rs

-- the messages
abbrev pub messages_in : List Round → List (List ℕ)
messages_in rs = map (λ (r : Round). r.message) rs

-- what messages do on a station, each after the station has answered those before it
abbrev pub happened_in : Station → List (List ℕ) → List Happened
happened_in s [] = []
happened_in s (m ∷ ms) = happened s m ∷ happened_in (respond s m).station ms
