-- The words that the programs are started with. Assumes nothing.
use Rattle.std.specs.Prelude.{Bool, ◌&&◌, List, [], ◌∷◌, ℕ, eqb, length, get_or}
use Rattle.bits.specs.Search.{every}

-- a word is this text: it is as long, and its bytes are the same
abbrev pub is_text : List ℕ → List ℕ → Bool
is_text text w = eqb (length w) (length text) && every (length text) (λ j. eqb (get_or w j 0) (get_or text j 0))

-- `--version`
abbrev pub is_version : List ℕ → Bool
is_version w = is_text (45 ∷ 45 ∷ 118 ∷ 101 ∷ 114 ∷ 115 ∷ 105 ∷ 111 ∷ 110 ∷ []) w
