-- The same by tables, four bytes at a time. That it is the same is promised (`BySlices` in Promises), so that nothing here need be believed.
-- Assumes nothing.
use Rattle.std.specs.Prelude.{cond, List, [], ◌∷◌, map, ℕ, zero, suc, ◌+◌, ◌*◌, ◌/◌, ◌%◌, eqb, length, get_or}
use Rattle.std.specs.Int.Bits.{bit_xor}
use Rattle.bits.specs.Places.{from}
use Rattle.codec.specs.Bytes.{from_little_endian}
use Rattle.checksum.specs.Checksum.{bit_step, inverted}

-- a state after n bits that are 0
unfoldable pub zeros_on : ℕ → ℕ → ℕ
zeros_on zero s = s
zeros_on (suc n) s = zeros_on n (bit_step s 0)

-- four tables, one behind the other: in each an entry for every byte, after 8 bits that are 0 in the first, 16, 24 and 32 in the others
abbrev pub table_entry : ℕ → ℕ
table_entry p = zeros_on (8 * (p / 256 + 1)) (p % 256)

unfoldable pub slices : List ℕ
slices = map table_entry (from 0 1024)

-- a state and a byte in one number, by the first table
abbrev pub over_byte : List ℕ → ℕ → ℕ
over_byte t z = bit_xor (z / 256) (get_or t (z % 256) 0)

-- a state and four bytes in one number, by all four
abbrev pub over_four : List ℕ → ℕ → ℕ
over_four t z =
    bit_xor (bit_xor (bit_xor (get_or t (z / 16777216) 0) (get_or t (256 + z / 65536 % 256) 0)) (get_or t (512 + z / 256 % 256) 0)) (get_or t (768 + z % 256) 0)

-- a state after some bytes, one by one, and four by four as long as there are four
unfoldable pub over_bytes : List ℕ → ℕ → List ℕ → ℕ
over_bytes t s [] = s
over_bytes t s (a ∷ rest) = over_bytes t (over_byte t (bit_xor s a)) rest

unfoldable pub over_fours : List ℕ → ℕ → List ℕ → ℕ
over_fours t s [] = s
over_fours t s (a ∷ []) = over_bytes t s (a ∷ [])
over_fours t s (a ∷ b ∷ []) = over_bytes t s (a ∷ b ∷ [])
over_fours t s (a ∷ b ∷ c ∷ []) = over_bytes t s (a ∷ b ∷ c ∷ [])
over_fours t s (a ∷ b ∷ c ∷ d ∷ rest) = over_fours t (over_four t (bit_xor s (from_little_endian 4 0 (a ∷ b ∷ c ∷ d ∷ rest)))) rest

-- the checksum that some tables give; 0 where they aren't of 1024 numbers
unfoldable pub crc_by : List ℕ → ℕ → List ℕ → ℕ
crc_by t c bytes = cond (eqb (length t) 1024) (inverted (over_fours t (inverted c) bytes)) 0
