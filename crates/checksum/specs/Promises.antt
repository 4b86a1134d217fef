-- What is promised of the checksum. Proved in proofs/Promises.antt. Assumes nothing.
use Rattle.std.specs.Prelude.{◌≡◌, List, [], ◌∷◌, ◌++◌, ℕ, ◌^◌, ◌<◌}
use Rattle.codec.specs.Bytes.{Bytes}
use Rattle.checksum.specs.Checksum.{crc_over}
use Rattle.checksum.specs.Slices.{slices, crc_by}

-- a checksum has 32 bits
abbrev pub InRange : Type 0
InRange = (c : ℕ) (bytes : List ℕ) → c < 2 ^ 32 → crc_over c bytes < 2 ^ 32

-- the checksum of two runs of bytes is that of the second, from that of the first on
abbrev pub Continues : Type 0
Continues = (c : ℕ) (a b : List ℕ) → crc_over c (a ++ b) ≡ crc_over (crc_over c a) b

-- by the right tables the checksum is the same
abbrev pub BySlices : Type 0
BySlices = (c : ℕ) (bytes : List ℕ) → c < 2 ^ 32 → Bytes bytes → crc_by slices c bytes ≡ crc_over c bytes

-- the value that is published for the text 123456789
abbrev pub Published : Type 0
Published = crc_over 0 (0x31 ∷ 0x32 ∷ 0x33 ∷ 0x34 ∷ 0x35 ∷ 0x36 ∷ 0x37 ∷ 0x38 ∷ 0x39 ∷ []) ≡ 0xE3069283
