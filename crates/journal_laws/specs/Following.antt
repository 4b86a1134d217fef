-- A journal that is followed by another: the old one is closed, and the new one's head is the station at its end, whatever is outstanding,
-- under way or set apart. What is promised of the two. Proved in proofs/Following.antt. Assumes nothing.
use Rattle.std.specs.Prelude.{◌≡◌, true, false, List, [], ◌∷◌, ◌++◌, ℕ, ◌^◌, ◌<◌, length, replicate}
use Rattle.bits.specs.Bits.{bit}
use Rattle.bits.specs.Places.{join}
use Rattle.floor.specs.Floor.{drive_in}
use Rattle.station.specs.declared.Station.{Station}
use Rattle.station.specs.Station.{start_of, fit}
use Rattle.service.specs.Service.{answers_on}
use Rattle.service.specs.Runs.{run}
use Rattle.rooms.specs.Promises.{StationTyped}
use Rattle.journal.specs.Journal.{station_after_messages, Follows}
use Rattle.journal.specs.Statements.{two_messages}
use Rattle.checksum.specs.Checksum.{crc_over}
use Rattle.journal_file.specs.declared.Kind.TheVariants.{Good}
use Rattle.journal_file.specs.declared.Replay.{Replay}
use Rattle.journal_file.specs.Appends.{Over, cut_short_kind, closed_kind, messages_kind, around, sum_after, append_of}
use Rattle.journal_file.specs.Heads.{head_bytes, head_of}
use Rattle.journal_file.specs.Replaying.{file_replay_begun, step_of, Leads}
use Rattle.journal_file.specs.Statements.{recorded_in}

-- ---- the new one

-- the head that goes on from a station, under the garage's name
abbrev pub head_for : List ℕ → Station → List ℕ
head_for name s = head_bytes crc_over name s

-- what was recorded from a station on makes the replay's station, and with all further input behind it, it is answered as one run that never
-- changed files
pub record Unbroken (s : Station) (recorded : List ℕ) (p : Replay) : Type 0 where
  pub follows : Follows s recorded p.station
  pub answers : (input : List ℕ) → answers_on s (recorded ++ input) ≡ (run s recorded).bytes ++ answers_on p.station input

-- some messages have made a station: a head for it is good, and whatever appends come behind it, they go on as if they stood in one file
-- with these messages. So it is with a journal of version 1.0, which is whole messages and nothing else, from the start on
abbrev pub TakesOver : Type 0
TakesOver =
    (first s : Station) (recorded name : List ℕ) (more : List (List ℕ)) (p : Replay)
    → fit first ≡ true → Follows first recorded s → StationTyped s → length name ≡ 40
    → let head = head_for name s in
    ((head_of crc_over head).kind ≡ Good)
    × (Leads (file_replay_begun crc_over head) more p → Unbroken first (recorded ++ recorded_in more) p)

-- the start is such a station
abbrev pub StartFit : Type 0
StartFit = fit start_of ≡ true

-- so it is with a journal of appends: what both files have recorded is answered as one run from the old one's first station on
abbrev pub FollowGoesOn : Type 0
FollowGoesOn =
    (r q p : Replay) (appends more : List (List ℕ)) (name : List ℕ)
    → fit r.station ≡ true → Leads r appends q → StationTyped q.station → length name ≡ 40
    → let head = head_for name q.station in
    ((head_of crc_over head).kind ≡ Good)
    × (Leads (file_replay_begun crc_over head) more p → Unbroken r.station (recorded_in appends ++ recorded_in more) p)

-- and the old one, had it gone on with the same messages, would have come to the same station
abbrev pub AsOneFile : Type 0
AsOneFile =
    (q one p : Replay) (further more : List (List ℕ)) (name : List ℕ)
    → fit q.station ≡ true → StationTyped q.station → length name ≡ 40
    → Leads q further one → Leads (file_replay_begun crc_over (head_for name q.station)) more p → recorded_in further ≡ recorded_in more
    → one.station ≡ p.station

-- ---- the old one

-- the mark that closes it: no bytes are carried
abbrev pub closing_mark : ℕ → List ℕ
closing_mark sum = append_of crc_over sum closed_kind []

-- behind any append but another such mark it is taken, and the station stays
abbrev pub MarkCloses : Type 0
MarkCloses =
    (q : Replay) → q.closed ≡ false → q.sum < 2 ^ 32
    → step_of crc_over q (closing_mark q.sum)
    ≡ record { replay = record { station = q.station; sum = sum_after crc_over q.sum closed_kind []; closed = true }; took = around; short = false }

-- behind it nothing is taken, by whatever checksum and whatever the bytes are
abbrev pub ClosedTakesNothing : Type 0
ClosedTakesNothing = (over : Over) (r : Replay) (m : List ℕ) → r.closed ≡ true → ((step_of over r m).took ≡ 0) × ((step_of over r m).replay ≡ r)

-- so no append follows it
abbrev pub ClosedIsLast : Type 0
ClosedIsLast = (r q : Replay) (more : List (List ℕ)) → r.closed ≡ true → Leads r more q → more ≡ []

-- ---- that there are such journals

-- a name, filled up with zeros
abbrev pub example_name : List ℕ
example_name = 97 ∷ replicate 39 0

-- a journal from the start on, with an append of two messages: a drive-in begins
abbrev pub example_begun : Replay
example_begun = file_replay_begun crc_over (head_for example_name start_of)

abbrev pub example_append : List ℕ
example_append = append_of crc_over example_begun.sum messages_kind (join two_messages)

abbrev pub example_end : Replay
example_end =
    record {
      station = station_after_messages start_of two_messages;
      sum = sum_after crc_over example_begun.sum messages_kind (join two_messages);
      closed = false;
    }

-- all that is asked of an old journal holds of it, while a drive is under way; and a new one with one more append follows it
pub record Followed : Type 0 where
  pub begins : fit example_begun.station ≡ true
  pub leads : Leads example_begun (example_append ∷ []) example_end
  pub typed : StationTyped example_end.station
  pub named : length example_name ≡ 40
  pub drives : bit example_end.station.bits drive_in ≡ true
  pub last : Replay
  pub more : List ℕ
  pub goes : Leads (file_replay_begun crc_over (head_for example_name example_end.station)) (more ∷ []) last
