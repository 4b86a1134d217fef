-- The numbers of a desk's cards in a journal: those of its last append that has cards, and zeros where none has. Assumes nothing.
use Rattle.std.specs.Prelude.{◌≡◌, Bool, false, cond, ◌||◌, List, [], ◌∷◌, ℕ, eqb, get_or, take, replicate}
use Rattle.journal_file.specs.declared.Replay.{Replay}
use Rattle.journal_file.specs.Appends.{numbers_kind, numbers_size, payload_of}
use Rattle.journal_file.specs.Replaying.{FileJournaled}

-- whether an append has cards
abbrev pub has_cards : List ℕ → Bool
has_cards a = eqb (get_or a 0 0) numbers_kind

-- whether one of some appends has
abbrev pub some_has_cards : List (List ℕ) → Bool
some_has_cards [] = false
some_has_cards (a ∷ more) = has_cards a || some_has_cards more

-- the numbers after an append: its own where it has cards, else those before
abbrev pub numbers_by : List ℕ → List ℕ → List ℕ
numbers_by before a = cond (has_cards a) (take numbers_size (payload_of a)) before

-- after some appends
abbrev pub numbers_on : List ℕ → List (List ℕ) → List ℕ
numbers_on before [] = before
numbers_on before (a ∷ more) = numbers_on (numbers_by before a) more

-- no card has a number
abbrev pub no_numbers : List ℕ
no_numbers = replicate numbers_size 0

-- after all appends of a journal: behind the head there are none
abbrev pub journal_numbers : List (List ℕ) → List ℕ
journal_numbers appends = numbers_on no_numbers appends

-- a good head and appends of so many bytes make this replay and these numbers
pub record CardsJournaled (r : Replay) (numbers : List ℕ) (n : ℕ) : Type 0 where
  pub file : FileJournaled r n
  pub numbers_are : numbers ≡ journal_numbers file.appends
