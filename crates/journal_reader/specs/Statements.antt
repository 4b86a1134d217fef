-- What is promised of the numbers that a reading finds. Proved in proofs/Cards.antt. Assumes nothing.
use Rattle.std.specs.Prelude.{◌≡◌, ℕ, ◌<◌, List, length}
use Rattle.checksum.specs.Checksum.{crc_over}
use Rattle.journal_file.specs.declared.Replay.{Replay}
use Rattle.journal_file.specs.Replaying.{step_of}
use Rattle.journal_file.specs.Cards.{numbers_by}
use Rattle.journal_reader.specs.Reading.{numbers_found}

-- of an append that is taken the numbers found are the numbers after it
abbrev pub FoundNumbers : Type 0
FoundNumbers =
    (r : Replay) (before a : List ℕ) → 0 < length a → (step_of crc_over r a).took ≡ length a → numbers_found before a ≡ numbers_by before a
