-- What holds of a station, the numbers of its cards, and the journal that makes both. Assumes nothing.
use Rattle.std.specs.Prelude.{◌≡◌, ℕ, ◌<◌, ◌≤◌, Bool, true, false, ◌⊎◌, List, length, take, drop, IfOk}
use Rattle.std.specs.declared.result.Result.{Result}
use Rattle.streams.specs.declared.Told.{Told}
use Rattle.station.specs.declared.Station.{Station}
use Rattle.checksum.specs.Slices.{slices}
use Rattle.journal.specs.Journal.{Follows}
use Rattle.journal_file.specs.Appends.{messages_kind, cut_short_kind, bad_length_kind, numbers_kind, numbers_size, most_carried}
use Rattle.journal_file.specs.Cards.{CardsJournaled}
use Rattle.journal_keeper.specs.declared.Journal.{Journal}

-- where a journal is kept, a good head and appends of so many bytes make its station and these numbers
abbrev pub JournalMakes : List ℕ → Journal → Type 0
JournalMakes numbers j = j.kept ≡ true → CardsJournaled (record { station = j.station; sum = j.sum; closed = false }) numbers j.length

-- the marks of a session that an answer ended
abbrev pub EndKind : ℕ → Type 0
EndKind kind = (kind ≡ cut_short_kind) ⊎ (kind ≡ bad_length_kind)

-- what is appended: whole messages, which take the station to the next; the mark of a session's end, which leaves it; or new numbers, and
-- whole messages behind them
abbrev pub Adds : Station → List ℕ → ℕ → List ℕ → Station → List ℕ → Type 0
Adds s numbers kind bytes next after =
    ((kind ≡ messages_kind) × Follows s bytes next × (0 < length bytes) × (length bytes ≤ most_carried) × (after ≡ numbers))
    ⊎ ((EndKind kind × (length bytes ≤ 44) × (next ≡ s) × (after ≡ numbers))
    ⊎ ((kind ≡ numbers_kind) × Follows s (drop numbers_size bytes) next × (numbers_size ≤ length bytes) × (length bytes ≤ most_carried)
    × (after ≡ take numbers_size bytes)))

-- where a session ended by an answer, the journal's last append is the mark that says so
abbrev pub Noted : Bool → Journal → Type 0
Noted ended j = ended ≡ true → j.kept ≡ true → j.ended ≡ true

-- a journal with another station, where nothing is appended for it
abbrev pub moved_to : Journal → Station → Journal
moved_to j next =
    record { station = next; sum = j.sum; length = j.length; kept = j.kept; called = j.called; ended = j.ended }

-- ---- what is promised of a call that goes well: all that was appended is on the disk, and nothing else with it

-- of an append of any kind behind one with the checksum `was`
abbrev pub AppendAdded : List ℕ → Journal → ℕ → ℕ → List ℕ → Station → Bool → Result Journal Told → Type 0
AppendAdded t j was kind bytes next ended r =
    (numbers after : List ℕ) → t ≡ slices → CardsJournaled (record { station = j.station; sum = was; closed = false }) numbers j.length
    → Adds j.station numbers kind bytes next after → IfOk r (λ k. (k.station ≡ next) × (k.ended ≡ ended) × JournalMakes after k)

-- of messages: the station is the next, and the numbers stay
abbrev pub MessagesKept : List ℕ → Journal → Station → List ℕ → Result Journal Told → Type 0
MessagesKept t j next bytes r =
    (numbers : List ℕ) → t ≡ slices → JournalMakes numbers j → Follows j.station bytes next → length bytes ≤ most_carried
    → IfOk r (λ k. (k.station ≡ next) × JournalMakes numbers k)

-- of numbers and messages behind them: both are new
abbrev pub CardsKept : List ℕ → Journal → Station → List ℕ → Result Journal Told → Type 0
CardsKept t j next bytes r =
    (numbers : List ℕ) → t ≡ slices → JournalMakes numbers j → Follows j.station (drop numbers_size bytes) next
    → numbers_size ≤ length bytes → length bytes ≤ most_carried
    → IfOk r (λ k. (k.station ≡ next) × JournalMakes (take numbers_size bytes) k)

-- of what ended a session: station and numbers stay
abbrev pub EndNoted : List ℕ → Journal → ℕ → Result Journal Told → Type 0
EndNoted t j kind r =
    (numbers : List ℕ) → t ≡ slices → JournalMakes numbers j → EndKind kind
    → IfOk r (λ k. (k.station ≡ j.station) × Noted true k × JournalMakes numbers k)
