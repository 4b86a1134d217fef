-- An image in hex, as people write its bytes, the lowest first: two digits a byte. It is a record's eight bytes, or sixteen, as an ask
-- returns them: the record's, then those of what is set apart. Assumes nothing.
use Rattle.std.specs.Prelude.{Bool, cond, ◌&&◌, ◌||◌, List, [], ◌∷◌, ◌++◌, ℕ, zero, suc, ◌+◌, ◌*◌, ◌-◌, ◌/◌, ◌%◌, eqb, ltb, leb, length, get_or}
use Rattle.bits.specs.Search.{every}
use Rattle.std.specs.declared.option.Option.{Option}
use Rattle.std.specs.declared.option.Option.TheVariants.{Some, None}
use Rattle.drawing.specs.declared.Hex.{Hex}
use Rattle.drawing.specs.declared.Hex.TheVariants.{Image, Asked}

-- the value of a digit, small letters or large ones; 16 where it is none
abbrev pub digit_of : ℕ → ℕ
digit_of b =
    cond (leb 48 b && leb b 57) (b - 48)
    (cond (leb 65 b && leb b 70) (b - 55)
    (cond (leb 97 b && leb b 102) (b - 87)
    16))

-- the first n of some bytes are digits
abbrev pub all_digits : ℕ → List ℕ → Bool
all_digits n d = every n (λ j. ltb (digit_of (get_or d j 0)) 16)

-- a space, a tab, a carriage return or a line feed
abbrev pub is_blank : ℕ → Bool
is_blank b = eqb b 32 || eqb b 9 || eqb b 13 || eqb b 10

-- a text without its blanks
unfoldable pub unblanked : List ℕ → List ℕ
unblanked [] = []
unblanked (b ∷ s) = let r = unblanked s in cond (is_blank b) r (b ∷ r)

-- digits 2k and 2k + 1 are byte k, and the bytes from k on, n of them, a number, the lowest first
unfoldable pub hex_number : ℕ → ℕ → List ℕ → ℕ
hex_number zero k s = 0
hex_number (suc n) k s = digit_of (get_or s (2 * k) 0) * 16 + digit_of (get_or s (2 * k + 1) 0) + 256 * hex_number n (suc k) s

-- so many digits say something: sixteen, or thirty-two
abbrev pub is_count : ℕ → Bool
is_count n = eqb n 16 || eqb n 32

abbrev pub hex_said : ℕ → List ℕ → Hex
hex_said n d = cond (eqb n 16) (Image (hex_number 8 0 d)) (Asked (hex_number 8 0 d) (hex_number 8 8 d))

-- what a text says: so many digits, with blanks anywhere
unfoldable pub hex_in : List ℕ → Option Hex
hex_in s =
    let d = unblanked s in
    let n = length d in
    cond (is_count n && all_digits n d) (Some (hex_said n d)) None

-- the digit of a value, in large letters
abbrev pub hex_digit : ℕ → ℕ
hex_digit v = cond (ltb v 10) (48 + v) (55 + v)

-- a byte's two digits
abbrev pub hex_byte : ℕ → List ℕ
hex_byte b = hex_digit (b / 16) ∷ hex_digit (b % 16) ∷ []

-- an image in a line: its n lowest bytes, a space between two and a line feed at the end
unfoldable pub hex_line : ℕ → ℕ → List ℕ
hex_line zero r = []
hex_line (suc n) r = hex_byte (r % 256) ++ (cond (eqb n 0) 10 32 ∷ hex_line n (r / 256))
