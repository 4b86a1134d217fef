-- Numbers of 32 bits in a run of bytes, four bytes each, the lowest first. Assumes nothing.
use Rattle.std.specs.Prelude.{Bool, cond, List, map, ℕ, ◌+◌, ◌*◌, leb, length, get_or}
use Rattle.bits.specs.Places.{from, join}
use Rattle.codec.specs.Bytes.{little_endian, from_little_endian}

-- four bytes stand in a run of so many from a place on
abbrev pub there : ℕ → ℕ → Bool
there size at = leb (at + 4) size

-- the number that they say; 0 where they aren't there
unfoldable pub four_at : ℕ → List ℕ → ℕ
four_at at m = cond (there (length m) at) (from_little_endian 4 at m) 0

-- n numbers that a run begins with, and n numbers as bytes
abbrev pub fours_in : ℕ → List ℕ → List ℕ
fours_in n m = map (λ p. from_little_endian 4 (4 * p) m) (from 0 n)

abbrev pub fours_bytes : ℕ → List ℕ → List ℕ
fours_bytes n c = join (map (λ p. little_endian 4 (get_or c p 0)) (from 0 n))
