-- What the checksum finds for certain: every change of up to 32 neighbouring bits, in the bytes, in the checksum behind them, or across both.
-- Proved in proofs/Bursts.antt and proofs/Stored.antt. Assumes nothing.
use Rattle.std.specs.Prelude.{◌≡◌, ◌⊎◌, List, [], ◌∷◌, ◌++◌, ℕ, ◌+◌, ◌/◌, ◌%◌, ◌^◌, ◌≤◌, ◌<◌, length, get_or, take}
use Rattle.codec.specs.Bytes.{little_endian, Bytes}
use Rattle.codec.specs.Fours.{four_at}
use Rattle.checksum.specs.Checksum.{crc_over}

-- bit i of some bytes, the lowest of each byte first
abbrev pub bit_at : List ℕ → ℕ → ℕ
bit_at m i = get_or m (i / 8) 0 / 2 ^ (i % 8) % 2

-- two runs of bytes are equally long, and agree at every bit except within 32 neighbouring ones, from bit k on
pub record Burst (k : ℕ) (x y : List ℕ) : Type 0 where
  pub bytes : Bytes x
  pub other_bytes : Bytes y
  pub long : length x ≡ length y
  pub agree : (i : ℕ) → (i < k) ⊎ (k + 32 ≤ i) → bit_at x i ≡ bit_at y i

-- a burst changes the checksum: bytes that differ by one, and have the same checksum, don't differ
abbrev pub BurstFound : Type 0
BurstFound = (c k : ℕ) (x y : List ℕ) → c < 2 ^ 32 → Burst k x y → crc_over c x ≡ crc_over c y → x ≡ y

-- bytes with their checksum behind them
abbrev pub checked : ℕ → List ℕ → List ℕ
checked c bytes = bytes ++ little_endian 4 (crc_over c bytes)

-- no burst turns such bytes into others that also have their checksum behind them, wherever it lies
abbrev pub CheckedBurstFound : Type 0
CheckedBurstFound = (c k : ℕ) (x y : List ℕ) → c < 2 ^ 32 → Burst k (checked c x) (checked c y) → x ≡ y

-- as a reader of bytes sees it: n bytes and the number behind them, which is their checksum; no burst makes such of other bytes
abbrev pub StoredBurstFound : Type 0
StoredBurstFound =
    (c n k : ℕ) (m changed : List ℕ) → c < 2 ^ 32 → Burst k m changed → n + 4 ≤ length m
    → four_at n m ≡ crc_over c (take n m) → four_at n changed ≡ crc_over c (take n changed) → take (n + 4) changed ≡ take (n + 4) m

-- the checksum tells what stands before: the same bytes behind two checksums have two
abbrev pub StartFound : Type 0
StartFound = (c d : ℕ) (bytes : List ℕ) → c < 2 ^ 32 → d < 2 ^ 32 → crc_over c bytes ≡ crc_over d bytes → c ≡ d

-- 32 bits are the most: these two differ within 33
abbrev pub NoLonger : Type 0
NoLonger = crc_over 0 (0 ∷ 0 ∷ 0 ∷ 0 ∷ 0 ∷ []) ≡ crc_over 0 (0xF1 ∷ 0x76 ∷ 0xEC ∷ 0x05 ∷ 0x01 ∷ [])
