-- A record is carried by one number of 64 binary digits. Here is a record as its bits, the number that carries given bits,
-- and how many of some bits are 1. Assumes nothing.
use Rattle.std.specs.Prelude.{Bool, true, false, cond, ◌&&◌, List, [], ◌∷◌, ℕ, zero, suc, ◌+◌, ◌*◌, ◌/◌, ◌%◌, ◌^◌, eqb}

-- a record as its bits: whether bit k is 1
abbrev pub Bits : Type 0
Bits = ℕ → Bool

-- bit k of a number
abbrev pub bit : ℕ → Bits
bit r k = eqb (r / 2 ^ k % 2) 1

-- a bit as a digit
abbrev pub digit : Bool → ℕ
digit true = 1
digit false = 0

-- the number whose n binary digits, lowest first, are the bits k, k + 1, ..
unfoldable pub packed : ℕ → ℕ → Bits → ℕ
packed zero k f = 0
packed (suc n) k f = packed n (suc k) f * 2 + digit (f k)

-- the number that carries a record
abbrev pub image : Bits → ℕ
image f = packed 64 0 f

-- how many of the bits at these places are 1
abbrev pub count : List ℕ → Bits → ℕ
count [] f = 0
count (k ∷ ks) f = digit (f k) + count ks f

-- each of the bits at these places is 1
abbrev pub all_set : List ℕ → Bits → Bool
all_set [] f = true
all_set (k ∷ ks) f = f k && all_set ks f

-- the record r with the bits of one mask made anew: 1 where the other mask has a 1
abbrev pub laid : ℕ → ℕ → ℕ → Bits
laid r touched new k = cond (bit touched k) (bit new k) (bit r k)
