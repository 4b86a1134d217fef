-- What the opening of a journal promises of the bytes that stand in the buffer once it was read. Assumes nothing.
use Rattle.std.specs.Prelude.{◌≡◌, ℕ, false, List, length, ◌≢◌}
use Rattle.checksum.specs.Slices.{crc_by}
use Rattle.journal_file.specs.Cards.{no_numbers}
use Rattle.journal_reader.specs.declared.Reading.{Reading}
use Rattle.journal_reader.specs.declared.Rest.TheVariants.{Damaged}
use Rattle.journal_reader.specs.Reading.{ReadingWithin, BuffersLent, CardsStand, rest_in, rest_of}
use Rattle.journal_keeper.specs.declared.Journal.{Journal}
use Rattle.journal_keeper.specs.declared.opening.Found.{Found}

-- it can be gone on with: it is not closed, and what stands behind its last append in the buffer is no damage
abbrev pub CanGoOn : List ℕ → Reading → List ℕ → Type 0
CanGoOn t q buf = (q.replay.closed ≡ false) × (rest_of (crc_by t) q.replay.sum q.place (rest_in q buf) ≢ Damaged)

-- with the right tables and room, what was read is what a head of the garage that is asked for and appends make, the numbers with it
abbrev pub FoundStands : List ℕ → List ℕ → List ℕ → Found → List ℕ → Type 0
FoundStands t room asked f buf = BuffersLent t room → CardsStand asked f.reading f.cards f.numbers buf

-- what was read to its end lies within the buffer, is sound, and stands there
abbrev pub ReadToEnd : List ℕ → List ℕ → List ℕ → Found → List ℕ → Type 0
ReadToEnd t room asked f buf = ReadingWithin f.reading (length buf) × CanGoOn t f.reading buf × FoundStands t room asked f buf

-- a journal is gone on with from where it was found: its station, the checksum of its last append and its length are the reading's
abbrev pub GoneOn : Found → Journal → Type 0
GoneOn f j =
    (j.station ≡ f.reading.replay.station) × (j.sum ≡ f.reading.replay.sum) × (j.length ≡ f.reading.place)
