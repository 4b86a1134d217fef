-- What is promised of damage to a journal: every change of up to 32 neighbouring bits in its head or in an append is found, an append tells
-- the checksum that it goes on from, and no such change makes one journal of another. Proved in proofs/Damage.antt and proofs/OneFile.antt.
-- Assumes nothing.
use Rattle.std.specs.Prelude.{◌≡◌, true, false, ◌⊎◌, List, ◌++◌, ℕ, ◌+◌, ◌^◌, ◌<◌, length, take}
use Rattle.checksum.specs.Checksum.{crc_over}
use Rattle.checksum.specs.Bursts.{Burst}
use Rattle.bits.specs.Places.{join}
use Rattle.journal_file.specs.declared.Kind.TheVariants.{NoJournal, OtherFormat, Damaged, Good}
use Rattle.journal_file.specs.declared.Replay.{Replay}
use Rattle.journal_file.specs.Appends.{around, carried_of, no_front, front_of}
use Rattle.journal_file.specs.Heads.{head_size, head_of}
use Rattle.journal_file.specs.Replaying.{file_replay_begun, Leads}

-- bytes begin with a whole append, and others differ from them only within 32 neighbouring bits: if the change touches the append, the others
-- are wrong there. They are never taken for an append, and never for bytes that end inside of one
abbrev pub AppendBurstFound : Type 0
AppendBurstFound =
    (sum k : ℕ) (m changed : List ℕ) → sum < 2 ^ 32 → Burst k m changed → (front_of crc_over sum m).whole ≡ true
    → let n = carried_of m + around in
    (take n changed ≡ take n m → ⊥) → front_of crc_over sum changed ≡ no_front false

-- bytes begin with a good head, and others differ from them only within 32 neighbouring bits: if the change touches the head, the others are
-- no journal, one of another format, or damaged
abbrev pub HeadBurstFound : Type 0
HeadBurstFound =
    (k : ℕ) (m changed : List ℕ) → Burst k m changed → (head_of crc_over m).kind ≡ Good
    → (take head_size changed ≡ take head_size m → ⊥)
    → let kind = (head_of crc_over changed).kind in
    (kind ≡ NoJournal) ⊎ ((kind ≡ OtherFormat) ⊎ (kind ≡ Damaged))

-- an append that is whole behind one checksum is so behind no other: one that is missing, repeated, out of place or from another journal is
-- found wherever the checksums before it differ
abbrev pub AppendInPlace : Type 0
AppendInPlace =
    (sum other : ℕ) (m : List ℕ) → sum < 2 ^ 32 → other < 2 ^ 32 → (front_of crc_over sum m).whole ≡ true → (front_of crc_over other m).whole ≡ true
    → sum ≡ other

-- a file is a journal: a good head, and appends that lead to a replay
pub record IsJournal (bytes : List ℕ) : Type 0 where
  pub head : List ℕ
  pub appends : List (List ℕ)
  pub last : Replay
  pub headed : (length head ≡ head_size) × ((head_of crc_over head).kind ≡ Good)
  pub leads : Leads (file_replay_begun crc_over head) appends last
  pub bytes_are : bytes ≡ head ++ join appends

-- no burst makes one journal of another, wherever it lies
abbrev pub JournalBurstFound : Type 0
JournalBurstFound = (k : ℕ) (file changed : List ℕ) → Burst k file changed → IsJournal file → IsJournal changed → file ≡ changed
