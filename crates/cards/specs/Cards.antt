-- Which car stands where: card numbers at places, and when they are the numbers of a record's cars. Assumes nothing.
use Rattle.std.specs.Prelude.{◌≡◌, ◌↔◌, false, List, ℕ}
use Rattle.bits.specs.Bits.{Bits}
use Rattle.floor.specs.Floor.{drive_in}
use Rattle.floor.specs.Cars.{Car, Layout}
use Rattle.cars.specs.Lists.{anchor, Among}

-- a numbering: the card number at each place, 0 for none; that of a car which is being driven in waits at the drive's own bit
abbrev pub Numbers : Type 0
Numbers = ℕ → ℕ

-- the numbers n are those of the cars l of the record f: each car has one, one waits exactly while a drive-in is under way, no other place
-- has any, and none stands at two places
pub record Numbered (f : Bits) (l : List Car) (n : Numbers) : Type 0 where
  pub each : (x : Car) → Among x l → n (anchor x) ≡ 0 → ⊥
  pub coming : (n drive_in ≡ 0) ↔ (f drive_in ≡ false)
  pub other : (k : ℕ) → ((x : Car) → Among x l → anchor x ≡ k → ⊥) → (k ≡ drive_in → ⊥) → n k ≡ 0
  pub once : (j k : ℕ) → n j ≡ n k → (n j ≡ 0 → ⊥) → j ≡ k

-- the numbers n are those of the cars of the record f, however it is laid out
abbrev pub Cards : Bits → Numbers → Type 0
Cards f n = (l : List Car) → Layout f l → Numbered f l n

-- the number c is in the garage, or its drive-in is under way
abbrev pub Has : Numbers → ℕ → Type 0
Has n c = (k : ℕ) × (n k ≡ c)
