-- The words that the program is started with. Assumes nothing.
use Rattle.std.specs.Prelude.{Bool, false, cond, not, List, [], ◌∷◌, ℕ, eqb, length, get_or}
use Rattle.commands.specs.Words.{is_text}

-- `--new`
abbrev pub is_new : List ℕ → Bool
is_new w = is_text (45 ∷ 45 ∷ 110 ∷ 101 ∷ 119 ∷ []) w

-- `--garage`
abbrev pub is_garage_word : List ℕ → Bool
is_garage_word w = is_text (45 ∷ 45 ∷ 103 ∷ 97 ∷ 114 ∷ 97 ∷ 103 ∷ 101 ∷ []) w

-- a file's name: it is not empty, and does not begin with `-`
abbrev pub is_name : List ℕ → Bool
is_name w = cond (eqb (length w) 0) false (not (eqb (get_or w 0 0) 45))
