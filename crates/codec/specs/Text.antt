-- Texts as their bytes, and a number as text. Assumes nothing.
use Rattle.std.specs.Prelude.{cond, List, [], ◌∷◌, ◌++◌, ℕ, zero, suc, ◌+◌, ◌/◌, ◌%◌, ltb}
use Prim.Native.Char.{code}
use Prim.Native.String as string
use Prim.Native.String.{String}

-- the codes of a text's letters
unfoldable pub ascii : String → List ℕ
ascii string.[] = []
ascii (string.◌∷◌ c s) = code c ∷ ascii s

-- a number's last digit
abbrev pub last_digit : ℕ → List ℕ
last_digit n = (48 + n % 10) ∷ []

-- a number of no more than f digits: the digits of its tenth, if it has one, and its last digit
unfoldable pub decimal_to : ℕ → ℕ → List ℕ
decimal_to zero n = []
decimal_to (suc f) n = cond (ltb n 10) (last_digit n) (decimal_to f (n / 10) ++ last_digit n)

-- a number as text: it has no more digits than one more than itself
abbrev pub decimal : ℕ → List ℕ
decimal n = decimal_to (suc n) n
