-- Parts of a run of bytes, as code refers to them. Assumes nothing.
use mathlib.Core.Path.{◌≡◌, sym, ap, ◌∙◌}
use mathlib.Core.List.{List, [], ◌∷◌, ◌++◌, append-nil}
use Prim.Native.Nat.{ℕ, zero, suc, ◌+◌, ◌*◌, ◌-◌, ◌≤◌, ◌<◌}
use native.Mathlib.Omega.{arith}
use lib.ListN.{get_or, length, take, drop, replicate, length-drop}
use lib.Seq.{take_all, take-length, length-take-le, drop-drop}
use native.Mathlib.Nat.{sub-zero, zero-sub, suc-sub-suc}
use Rattle.std.specs.Int.{w64, from_le_bytes}
use Rattle.codec.specs.Bytes.{from_little_endian}
use Rattle.codec.proofs.LittleEndian.{eight_said}
use Rattle.wire.specs.Kinds.{set_of}

-- what `&m[at..]` refers to
pub from_on : (m : List ℕ) (at : ℕ) → take (length m - at) (drop at m) ≡ drop at m
from_on m at = take_all (length m - at) (drop at m) (simp length-drop (omega arith))

-- instruction i of a message stands at place 5 + 5i
pub at_five : (m : List ℕ) (i : ℕ) → take (length m - (5 + 5 * i)) (drop (5 + 5 * i) m) ≡ drop (5 * i) (drop 5 m)
at_five m i = from_on m (5 + 5 * i) ∙ sym (drop-drop (5 * i) 5 m)

-- two bytes from place i on, and eight as four times two
module _ (s : List ℕ) (i : ℕ) where
  pub two_at : {a b : ℕ} → a ≡ get_or s i 0 → b ≡ get_or s (i + 1) 0 → from_little_endian 2 0 (a ∷ b ∷ []) ≡ from_little_endian 2 i s
  two_at e f = let next : i + 1 ≡ suc i = omega arith in rw (e, f, next)

  -- what stands k past place i
  abbrev pub past : ℕ → ℕ
  past k = get_or s (i + k) 0

  pub eight_at : {a b c d e f g h : ℕ} → a ≡ get_or s i 0 → b ≡ past 1 → c ≡ past 2 → d ≡ past 3 → e ≡ past 4 → f ≡ past 5 → g ≡ past 6 → h ≡ past 7
      → from_le_bytes w64 (a ∷ b ∷ c ∷ d ∷ e ∷ f ∷ g ∷ h ∷ []) ≡ from_little_endian 8 i s
  eight_at {a} {b} {c} {d} {e} {f} {g} {h} ea eb ec ed ee ef eg eh =
      let one : i + 1 ≡ suc i = omega arith in
      let two : i + 2 ≡ suc (suc i) = omega arith in
      let three : i + 3 ≡ suc (suc (suc i)) = omega arith in
      let four : i + 4 ≡ suc (suc (suc (suc i))) = omega arith in
      let five : i + 5 ≡ suc (suc (suc (suc (suc i)))) = omega arith in
      let six : i + 6 ≡ suc (suc (suc (suc (suc (suc i))))) = omega arith in
      let seven : i + 7 ≡ suc (suc (suc (suc (suc (suc (suc i)))))) = omega arith in
      eight_said a b c d e f g h ∙ rw (ea, eb, ec, ed, ee, ef, eg, eh, one, two, three, four, five, six, seven)

-- past its first n places an array of zeros holds zeros
pub zeros_past : (n k : ℕ) → drop {A = ℕ} n (replicate k 0) ≡ replicate (k - n) 0
zeros_past zero k = rw sub-zero
zeros_past (suc n) zero = rw zero-sub
zeros_past (suc n) (suc k) = rw suc-sub-suc (zeros_past n k)

-- the set that a reader leaves: the n instructions of the message, and zeros
pub set_of_lem : (m : List ℕ) (n : ℕ) → length m ≡ 5 + 5 * n
    → drop 5 m ++ replicate (40 - length (drop 5 m)) 0 ≡ take (5 * n) (drop 5 m) ++ replicate (40 - 5 * n) 0
set_of_lem m n e =
    let l : length (drop 5 m) ≡ 5 * n = length-drop 5 m ∙ omega arith in
    rw (take_all (5 * n) (drop 5 m) (omega arith), l)

-- an array of zeros into whose first places a run was copied
pub zero_filled : (s last : List ℕ) → last ≡ take (length s) s ++ drop (length s) (replicate 40 0) → last ≡ s ++ replicate (40 - length s) 0
zero_filled s last e = e ∙ rw (take-length s, zeros_past (length s) 40)

-- a whole set copied to the end of an array
pub set_filled : (set last : List ℕ) → length set ≡ 40 → last ≡ take (length set) set ++ drop (length set) (replicate 40 0) → last ++ [] ≡ set
set_filled set last l e = rw (append-nil, e, take-length set, l, append-nil)

-- and behind five bytes at its start
pub behind_five : {a b c d e : ℕ} (set m last : List ℕ) → length set ≡ 40 → m ≡ a ∷ b ∷ c ∷ d ∷ e ∷ replicate 40 0
    → last ≡ take (length set) set ++ drop (length set) (take 40 (drop 5 m))
    → take 5 m ++ (last ++ drop 40 (drop 5 m)) ≡ a ∷ b ∷ c ∷ d ∷ e ∷ set
behind_five {a} {b} {c} {d} {e} set m last l f g =
    let h : last ≡ take (length set) set ++ drop (length set) (replicate 40 0) = rw f at g in
    rw f (ap (λ (s : List ℕ). a ∷ b ∷ c ∷ d ∷ e ∷ s) (set_filled set last l h))

-- forty places hold a run that is no longer
pub set_short : (s : List ℕ) → length s ≤ 40 → set_of s ≡ s ++ replicate (40 - length s) 0
set_short s h = rw (take_all 40 s h)

-- and the first forty bytes of a longer one
pub first_forty : (s : List ℕ) → 40 < length s → length (take 40 s) ≡ 40
first_forty s h = length-take-le 40 s (omega arith)

pub set_long : (s : List ℕ) → 40 < length s → take 40 s ++ replicate (40 - length (take 40 s)) 0 ≡ set_of s
set_long s h =
    let z : 40 - length s ≡ 0 = omega arith in
    rw (first_forty s h, z)
