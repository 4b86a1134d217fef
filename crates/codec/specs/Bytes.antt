-- Numbers in bytes, the lowest first, and runs of bytes: what messages, rooms, journals and checksums share. Assumes nothing.
use Rattle.std.specs.Prelude.{List, [], ◌∷◌, ℕ, zero, suc, ◌+◌, ◌*◌, ◌/◌, ◌%◌, ◌<◌, get_or}

-- n bytes that say a number, the lowest first
abbrev pub little_endian : ℕ → ℕ → List ℕ
little_endian zero x = []
little_endian (suc n) x = x % 256 ∷ little_endian n (x / 256)

-- the number that n bytes say, from place i of a run on
abbrev pub from_little_endian : ℕ → ℕ → List ℕ → ℕ
from_little_endian zero i s = 0
from_little_endian (suc n) i s = get_or s i 0 + 256 * from_little_endian n (suc i) s

-- each number of a run is a byte
abbrev pub Bytes : List ℕ → Type 0
Bytes s = (i : ℕ) → get_or s i 0 < 256
