-- What every call keeps of the station: it is in good order. Assumes nothing.
use Prim.Native.Nat.{ℕ, ◌<◌}
use mathlib.Core.Path.{◌≡◌}
use mathlib.Core.Bool.{true, false}
use Rattle.any_order.proofs.Rules.{Rules, Clear}
use Rattle.any_order.proofs.Machine.{Batch, Station}

module _ {W C I E : Type 0} (R : Rules W C I E) where
  -- no two instructions of a set overlap
  abbrev pub Apart : Batch I → Type 0
  Apart b = (i j : ℕ) → i < b.size → j < b.size → (i ≡ j → ⊥) → Clear R.width (R.area (b.at i)) (R.area (b.at j))

  -- and each is allowed on a record
  pub record Ready (b : Batch I) (f : W) : Type 0 where
    pub apart : Apart b
    pub allowed : (j : ℕ) → j < b.size → R.allowed (b.at j) f ≡ true

  -- an instruction of the station's set that has no result yet
  abbrev pub Waits : Station W I → ℕ → Type 0
  Waits s j = (j < s.set.size) × (s.answered j ≡ false)

  -- a station in good order, of which these instructions are stuck (`jams`)
  pub record Good (jams : Batch I) (s : Station W I) : Type 0 where
    -- its record is sound, no two instructions of its set overlap, and each that has no result yet is allowed on the present record
    pub sound : R.sound s.bits ≡ true
    pub apart : Apart s.set
    pub allowed : (j : ℕ) → Waits s j → R.allowed (s.set.at j) s.bits ≡ true
    -- no two stuck instructions overlap, and each would be allowed too; what is in their areas is set apart
    pub jammed : Ready jams s.bits
    pub inside : (i : ℕ) → i < jams.size → (k : ℕ) → k < R.width → R.area (jams.at i) k ≡ true → s.away k ≡ true
    -- an instruction that has no result yet overlaps none of them
    pub free : (j : ℕ) → Waits s j → (i : ℕ) → i < jams.size → Clear R.width (R.area (s.set.at j)) (R.area (jams.at i))
