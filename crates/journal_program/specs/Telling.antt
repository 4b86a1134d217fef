-- What holds of a journal while it is read to its end, and of the end that a new one follows. Assumes nothing.
use Rattle.std.specs.Prelude.{◌≡◌, ℕ, ◌<◌, ◌≤◌, true, false, List, length}
use Rattle.service.specs.Runs.{enough}
use Rattle.journal.specs.Journal as bare
use Rattle.checksum.specs.Checksum.{crc_over}
use Rattle.journal_file.specs.declared.Replay.{Replay}
use Rattle.journal_file.specs.Replaying.{step_of, FileJournaled}
use Rattle.journal_reader.specs.declared.Reading.{Reading}
use Rattle.journal_reader.specs.Reading.{ReadingWithin, StandsIn}
use Rattle.journal_program.specs.declared.following.End.{End}

-- what was read so far lies within the buffer and stands there, also where it can't be read on
abbrev pub ReadsOn : List ℕ → Reading → List ℕ → Type 0
ReadsOn asked q buf = ReadingWithin q (length buf) × StandsIn asked q buf

-- some bytes are one append and nothing else, behind some others
pub record IsAppend (a : List ℕ) : Type 0 where
  pub behind : Replay
  pub some : 0 < length a
  pub whole : (step_of crc_over behind a).took ≡ length a

-- ---- version 1.0

-- a buffer that is longer than a message, and room for all answers to it
abbrev pub RoomToTell : List ℕ → List ℕ → Type 0
RoomToTell buf out = (45 ≤ length buf) × (enough (length buf) ≤ length out)

-- ---- the end of a journal

-- a good head and appends make the station at its end, or whole messages do where version 1.0 wrote it
abbrev pub Ends : End → Type 0
Ends e =
    (e.older ≡ false → FileJournaled (record { station = e.station; sum = e.sum; closed = e.closed }) e.place)
    × (e.older ≡ true → bare.Journaled e.station e.place)
