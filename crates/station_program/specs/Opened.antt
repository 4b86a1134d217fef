-- What the program begins with where a journal is asked for. Assumes nothing.
use Rattle.std.specs.Prelude.{◌≡◌, true, false, List, ℕ}
use Rattle.journal_reader.specs.Reading.{BuffersLent}
use Rattle.journal_keeper.specs.declared.Journal.{Journal}
use Rattle.journal_keeper.specs.declared.opening.Found.{Found}
use Rattle.journal_keeper.specs.Opened.{ReadToEnd, GoneOn}
use Rattle.station_program.specs.Keeping.{StationMakes}

-- a journal of the garage that is asked for was found, without cards, and is gone on with from there: it makes the station
pub record Opened (t room asked buf : List ℕ) (j : Journal) : Type 0 where
  pub found : Found
  pub read : ReadToEnd t room asked found buf
  pub gone : GoneOn found j
  pub cardless : found.cards ≡ false
  pub makes : BuffersLent t room → StationMakes j

-- where one is kept
abbrev pub OpenedIfKept : List ℕ → List ℕ → List ℕ → List ℕ → Journal → Type 0
OpenedIfKept t room asked buf j = j.kept ≡ true → Opened t room asked buf j
