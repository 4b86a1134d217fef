-- A station laid out in bytes, and read from them. Assumes nothing.
use mathlib.Core.Path.{◌≡◌, refl, sym, ap, ◌∙◌}
use mathlib.Core.List.{List, [], ◌∷◌, ◌++◌, append-nil}
use Prim.Native.Nat.{ℕ, zero, suc, ◌+◌, ◌*◌, ◌/◌, ◌%◌, ◌≤◌, ◌<◌}
use native.Mathlib.Omega.{arith}
use lib.ListN as list
use lib.ListN.{length, get_or, take, drop, replicate}
use lib.Seq.{length-take-le, get_or-take, get_or-drop}
use Rattle.codec.specs.Bytes.{little_endian, from_little_endian}
use Rattle.station.specs.declared.Station.{Station}
use Rattle.wire.specs.Kinds.{set_of}
use Rattle.wire.proofs.Parts.{set_short}
use Rattle.rooms.specs.Rooms.{station_bytes}

-- the set of a loaded station
pub set_in : (m set : List ℕ) → 60 ≤ length m → set ≡ set_of (take 40 (drop 10 m)) → set ≡ take 40 (drop 10 m)
set_in m set h e =
    let l : length (take 40 (drop 10 m)) ≡ 40 = length-take-le 40 (drop 10 m) (rw list.length-drop (omega arith)) in
    e ∙ set_short (take 40 (drop 10 m)) (rw l (omega arith)) ∙ rw (l, append-nil)

-- the issue of the next set: its two bytes
pub next_in : (m : List ℕ) → get_or m 50 0 + 256 * get_or m 51 0 ≡ from_little_endian 2 50 m
next_in m = omega arith

-- a number that stands within a run's first bytes is read from these
pub within : (n i k : ℕ) (m : List ℕ) → i + n ≤ k → from_little_endian n i (take k m) ≡ from_little_endian n i m
within zero i k m h = refl
within (suc n) i k m h = rw (get_or-take k m i 0 (omega arith), within n (suc i) k m (omega arith))

-- what is set apart: its eight bytes
pub apart_in : (m : List ℕ) → from_little_endian 8 0 (take 8 (drop 52 m)) ≡ from_little_endian 8 52 m
apart_in m = within 8 0 8 (drop 52 m) (omega arith) ∙ simp get_or-drop

-- places of zeros, into which what is set apart, the next issue, the set, the record, the count and the marks were put
pub laid_out : (s : Station) (image head rest bytes issue parts last : List ℕ) → image ≡ little_endian 8 s.bits
    → head ≡ take (length image) image ++ drop (length image) (replicate 8 0) → rest ++ [] ≡ s.set
    → bytes ≡ little_endian 2 s.next → issue ≡ take (length bytes) bytes ++ drop (length bytes) (replicate 2 0)
    → parts ≡ little_endian 8 s.apart → last ≡ take (length parts) parts ++ drop (length parts) (replicate 8 0)
    → list.set (list.set (head ++ (0 ∷ 0 ∷ (rest ++ (issue ++ (last ++ []))))) 8 s.count) 9 s.answered ≡ station_bytes s
unfolding station_bytes
laid_out s image head rest bytes issue parts last e h r b m p l = rw (h, e, sym (append-nil rest) ∙ r, m, b, l, p)
