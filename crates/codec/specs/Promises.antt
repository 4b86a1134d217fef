-- What is promised of numbers in bytes. Proved in proofs/Forms.antt. Assumes nothing.
use Rattle.std.specs.Prelude.{◌≡◌, List, ◌++◌, ℕ, ◌*◌, ◌^◌, ◌≤◌, ◌<◌, length, get_or, take}
use Rattle.codec.specs.Bytes.{Bytes, little_endian, from_little_endian}
use Rattle.codec.specs.Fours.{fours_in, fours_bytes}

-- n numbers of 32 bits that were written read back, whatever stands past them
abbrev pub FoursReadBack : Type 0
FoursReadBack =
    (n : ℕ) (c past : List ℕ) → length c ≡ n → ((p : ℕ) → get_or c p 0 < 2 ^ 32) → fours_in n (fours_bytes n c ++ past) ≡ c

-- bytes that say n numbers of 32 bits are those that are written for them
abbrev pub FoursOneForm : Type 0
FoursOneForm = (n : ℕ) (m : List ℕ) → Bytes m → 4 * n ≤ length m → fours_bytes n (fours_in n m) ≡ take (4 * n) m

-- an image written in eight bytes reads back, whatever follows it
abbrev pub ImageReadsBack : Type 0
ImageReadsBack = (x : ℕ) (t : List ℕ) → x < 2 ^ 64 → from_little_endian 8 0 (little_endian 8 x ++ t) ≡ x

-- eight bytes are those of the image that they say
abbrev pub ImageOneForm : Type 0
ImageOneForm = (s : List ℕ) → Bytes s → 8 ≤ length s → take 8 s ≡ little_endian 8 (from_little_endian 8 0 s)
