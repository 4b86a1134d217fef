-- CRC-32C, the checksum with Castagnoli's polynomial, bit by bit. A state is a number of 32 bits; of each byte the lowest bit comes first.
-- Assumes nothing.
use Rattle.std.specs.Prelude.{List, [], ◌∷◌, ◌++◌, ℕ, zero, suc, ◌+◌, ◌*◌, ◌/◌, ◌%◌}
use Rattle.std.specs.Int.Bits.{bit_xor}

-- Castagnoli's polynomial without x³², reflected: bit 31 is the coefficient of x⁰, bit 0 that of x³¹
abbrev pub polynomial : ℕ
polynomial = 0x82F63B78

-- the state after one bit b, 0 or 1: it moves down by one, and where what falls out differs from b the polynomial is added, without carries
abbrev pub bit_step : ℕ → ℕ → ℕ
bit_step s b = bit_xor (s / 2) ((s + b) % 2 * polynomial)

-- after several bits
unfoldable pub over_bits : ℕ → List ℕ → ℕ
over_bits s [] = s
over_bits s (b ∷ bs) = over_bits (bit_step s b) bs

-- the n lowest bits of a number, the lowest first
unfoldable pub low_bits : ℕ → ℕ → List ℕ
low_bits zero x = []
low_bits (suc n) x = x % 2 ∷ low_bits n (x / 2)

-- the bits of some bytes
unfoldable pub bits_of : List ℕ → List ℕ
bits_of [] = []
bits_of (x ∷ xs) = low_bits 8 x ++ bits_of xs

-- each of 32 bits the other way
abbrev pub inverted : ℕ → ℕ
inverted s = bit_xor s 0xFFFFFFFF

-- the checksum of bytes that stand behind others whose checksum is c; that of no bytes is 0
unfoldable pub crc_over : ℕ → List ℕ → ℕ
crc_over c bytes = inverted (over_bits (inverted c) (bits_of bytes))
