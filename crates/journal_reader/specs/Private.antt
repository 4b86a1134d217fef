-- What private functions of the crate cite. Assumes nothing.
use Rattle.std.specs.Prelude.{◌≡◌, ℕ, ◌+◌, ◌<◌, ◌≤◌, Bool, true, false, ◌&&◌, List, length}
use Rattle.streams.specs.Input.{FrontKept}
use Rattle.journal_reader.specs.declared.Filled.{Filled}
use Rattle.journal_reader.specs.declared.Reading.{Reading}
use Rattle.journal_reader.specs.Reading.{ReadingWithin, BuffersLent, Stays, AppendTakes}

-- the bytes that were held stay, and no more come than the buffer has room for
abbrev pub FilledUp : List ℕ → ℕ → Filled → List ℕ → Type 0
FilledUp before have f after = (have ≤ f.end) × (f.end ≤ length before) × FrontKept before have after

-- a reading that took nothing
abbrev pub stopped_at : Reading → Bool → Reading
stopped_at q well =
    record {
      replay = q.replay;
      place = q.place;
      from = q.from;
      at = q.at;
      end = q.end;
      more = q.more;
      well = q.well && well;
      took = false;
      appends = q.appends;
      messages = q.messages;
    }

-- what a read leaves: the reading stays, within the buffer
abbrev pub ReadingBrought : Reading → List ℕ → Reading → List ℕ → Type 0
ReadingBrought q before r after = ReadingWithin r (length before) × Stays q before r after

-- what the append that stands in the buffer makes of a reading: it is taken, and lies within what the buffer is filled with, or nothing is
abbrev pub Steps : List ℕ → List ℕ → Reading → List ℕ → Reading → Type 0
Steps t room q buf r =
    (r.took ≡ false → r ≡ stopped_at q true)
    × (r.took ≡ true → (r.from ≡ q.at) × (q.at ≤ r.at) × (r.at ≤ q.end) × (r.end ≡ q.end))
    × (r.took ≡ true → BuffersLent t room → AppendTakes q r buf)
