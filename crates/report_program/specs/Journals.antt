-- The week of a journal: what happened by each of its appends, as a report over the sessions' own input counts it. Assumes nothing.
use Rattle.std.specs.Prelude.{◌≡◌, true, List, [], ◌∷◌, ◌++◌, ℕ, length, get_or}
use Rattle.std.specs.declared.option.Option.{Option}
use Rattle.station.specs.declared.Station.{Station}
use Rattle.totals.specs.declared.Happened.{Happened}
use Rattle.totals.specs.Totals.{totals_of, blank, counted_all}
use Rattle.week.specs.Weeks.{happenings}
use Rattle.checksum.specs.Checksum.{crc_over}
use Rattle.journal_file.specs.declared.Kind.TheVariants.{Good}
use Rattle.journal_file.specs.declared.Replay.{Replay}
use Rattle.journal_file.specs.Appends.{carries_messages, carried_messages}
use Rattle.journal_file.specs.Heads.{head_size, head_of}
use Rattle.journal_file.specs.Replaying.{file_replay_begun, step_of, Leads}
use Rattle.journal_file.specs.Statements.{recorded_in}

-- what happens by an append: it carries the messages of a read, also behind the numbers of cards, or the bytes that a session ended with,
-- which were answered as one message
abbrev pub happenings_by : Station → List ℕ → List Happened
happenings_by s a = happenings s (carried_messages a)

-- by appends, one after the other, each on the station that the ones before have made
abbrev pub happenings_in : Replay → List (List ℕ) → List Happened
happenings_in r [] = []
happenings_in r (a ∷ more) = happenings_by r.station a ++ happenings_in (step_of crc_over r a).replay more

-- the totals are the week of a journal behind its first `skipped` appends
pub record JournalWeek (skipped : ℕ) (counts : List ℕ) (full : Option ℕ) : Type 0 where
  pub head : List ℕ
  pub before : List (List ℕ)
  pub appends : List (List ℕ)
  pub from : Replay
  pub last : Replay
  pub headed : (length head ≡ head_size) × ((head_of crc_over head).kind ≡ Good)
  pub skips : (length before ≡ skipped) × Leads (file_replay_begun crc_over head) before from
  pub leads : Leads from appends last
  pub counted : record { totals = totals_of counts; full = full } ≡ counted_all blank (happenings_in from appends)

-- ---- what that is

-- each carries the messages of a read
abbrev pub AllMessages : List (List ℕ) → Type 0
AllMessages [] = Unit {0}
AllMessages (a ∷ more) = (carries_messages (get_or a 0 0) ≡ true) × AllMessages more

-- a session whose reads are recorded, and then what it ended with: it counts what a report over the session's own input counts
abbrev pub SessionCounted : Type 0
SessionCounted =
    (r q : Replay) (reads : List (List ℕ)) (end : List ℕ) → Leads r reads q → AllMessages reads
    → happenings_in r (reads ++ (end ∷ [])) ≡ happenings r.station (recorded_in reads ++ carried_messages end)

-- and one that ended with nothing left over
abbrev pub SessionEnded : Type 0
SessionEnded =
    (r q : Replay) (reads : List (List ℕ)) → Leads r reads q → AllMessages reads
    → happenings_in r reads ≡ happenings r.station (recorded_in reads)
