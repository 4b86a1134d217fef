-- The row of a side's position, and the two digits of the lift's height. Assumes nothing.
use mathlib.Core.Path.{◌≡◌, refl, ap}
use mathlib.Core.Bool.{Bool, true, false, cond}
use mathlib.Core.List.{[], ◌∷◌}
use Prim.Native.Nat.{ℕ, ◌<◌}
use native.Mathlib.Omega.{arith}
use lib.Dec.{eqb}
use Rattle.std.specs.declared.option.Option.{Option}
use Rattle.std.specs.declared.option.Option.TheVariants.{Some, None}
use Rattle.bits.specs.Places.{places}
use Rattle.floor.specs.Floor.{height_low, height_high}
use Rattle.cards.specs.Private.{row_at, place_at}

-- a row that is found is one of three
abbrev of_row : Option ℕ → ℕ
of_row None = 0
of_row (Some row) = row

abbrev found : Option ℕ → ℕ
found None = 0
found (Some row) = 1

one_of_three : (a b c : Bool) {row : ℕ} → cond a (Some 1) (cond b (Some 2) (cond c (Some 3) None)) ≡ Some row → (0 < row) × (row < 4)
one_of_three true b c {row} e = let q : 1 ≡ row = ap of_row e in (omega arith, omega arith)
one_of_three false true c {row} e = let q : 2 ≡ row = ap of_row e in (omega arith, omega arith)
one_of_three false false true {row} e = let q : 3 ≡ row = ap of_row e in (omega arith, omega arith)
one_of_three false false false {row} e = let q : 0 ≡ 1 = ap found e in absurd (omega (arith, q))

pub row_small : (side k : ℕ) {row : ℕ} → row_at side k ≡ Some row → (0 < row) × (row < 4)
unfolding row_at
row_small side k e = one_of_three (eqb k (place_at side 1)) (eqb k (place_at side 2)) (eqb k (place_at side 3)) e

-- ---- the two digits of the lift's height

pub low_place : places 0x20000000000000 ≡ height_low ∷ []
unfolding places
low_place = refl

pub high_place : places 0x40000000000000 ≡ height_high ∷ []
unfolding places
high_place = refl
