-- A sound record has at most 30 cars: above the basement the lift's two cells are free, so there the car on the raised lift is one of
-- no more than thirty. With the lift empty at street it has at most 28: of the eleven half cells left of the lift and the seven right of it
-- an even number is occupied each. Assumes nothing.
use mathlib.Core.Path.{◌≡◌, refl, ap}
use mathlib.Core.Bool.{true, false, not, and-false}
use mathlib.Core.List.{[], ◌∷◌, ◌++◌}
use Prim.Native.Nat.{ℕ, ◌%◌, ◌≤◌}
use native.Mathlib.Omega.{arith}
use lib.Dec.{T, eqb}
use borrow.Author.Tests.{eqb-true, eqb-false}
use Rattle.bits.specs.Bits.{Bits, bit, digit, count}
use Rattle.bits.specs.Places.{elem}
use Rattle.bits.proofs.Cases.{split, clash, both, true→T}
use Rattle.bits.proofs.Counts.{count_le}
use Rattle.floor.specs.Floor.{row_cells, raised_car, street, height_low, height_high, lift_cells, left_of_lift, right_of_lift}
use Rattle.floor.specs.Cars.{cars}
use Rattle.floor.specs.Sound.{sound_rules, paired, sound, total}
use Rattle.floor.specs.Tests.{free, no, holds, all_hold, height_is, at_basement}
use Rattle.std.specs.declared.option.Option.TheVariants.{Some, None}
use Rattle.floor.specs.Promises.{FewCars, ThirtyCars, empty_at_street, AtMost28, TwentyEight}
use Rattle.floor.proofs.Reading.{nth_holds}
use Rattle.floor.proofs.Rows.{below, Whole, whole_iff_paired}
use Rattle.floor.proofs.Standing.{or_else}

module _ (f : Bits) (r : T (all_hold sound_rules f)) where
  -- with a car on the raised lift, the lift's cells are free
  cell_free : f raised_car ≡ true → (k : ℕ) → T (elem k lift_cells) → f k ≡ false
  cell_free o k m = split (f k)
      (λ e. clash
      (or_else (raised_car ∷ []) (no at_basement) f (nth_holds f sound_rules r 7) raised_car tt o)
      (ap not (or_else lift_cells at_basement f (nth_holds f sound_rules r 6) k m e)))
      (λ e. e)

  cars_le : cars f ≤ 30
  unfolding cars
  cars_le = split (f raised_car)
      (λ o. omega (arith, ap digit (cell_free o 11 tt), ap digit (cell_free o 12 tt), count_le left_of_lift f, count_le right_of_lift f, count_le (row_cells 2 ++ row_cells 3) f, ap digit o))
      (λ o. omega (arith, count_le (row_cells 1) f, count_le (row_cells 2 ++ row_cells 3) f, ap digit o))

  -- at street they are free too
  street_free : holds (height_is street) f ≡ true → (k : ℕ) → T (elem k lift_cells) → f k ≡ false
  street_free s k m = split (f k)
      (λ e. clash (or_else lift_cells at_basement f (nth_holds f sound_rules r 6) k m e) above)
      (λ e. e)
    where
      above : holds at_basement f ≡ false
      above = split (f height_high)
          (λ t. let z : holds (height_is street) f ≡ false = rw t (and-false (holds (free (height_low ∷ [])) f)) in clash s z)
          (λ t. rw t (and-false (holds (free (height_low ∷ [])) f)))

  module _ (w : Whole 20 f) where
    -- below a free cell an even number is occupied
    even_below : (k : ℕ) → k ≤ 20 → f k ≡ false → below f k % 2 ≡ 0
    even_below k h o = split (eqb (below f k % 2) 1)
        (λ e. clash (w k h (eqb-true _ 1 e)).1 o)
        (λ e. let n = eqb-false (below f k % 2) 1 e in omega arith)

    even_all : below f 20 % 2 ≡ 0
    even_all = split (eqb (below f 20 % 2) 1)
        (λ e. absurd (let l = (w 20 (omega arith) (eqb-true _ 1 e)).0 in omega arith))
        (λ e. let n = eqb-false (below f 20 % 2) 1 e in omega arith)

    cars_at_street : holds empty_at_street f ≡ true → cars f ≤ 28
    unfolding cars
    cars_at_street a =
        let (s, o) = both (holds (height_is street) f) (holds (free (raised_car ∷ [])) f) a in
        let a = street_free s 11 tt in
        let b = street_free s 12 tt in
        let z = eqb-true (count (raised_car ∷ []) f) 0 o in
        omega (
          arith,
          z,
          ap digit a,
          ap digit b,
          even_below 11 (omega arith) a,
          even_below 12 (omega arith) b,
          even_all,
          count_le left_of_lift f,
          count_le right_of_lift f,
          count_le (row_cells 2 ++ row_cells 3) f,
        )

pub few_cars : FewCars
unfolding total sound
few_cars r n e = split (sound r)
    (λ t. let h : Some (cars (bit r)) ≡ Some n = rw t at e in
    let k : cars (bit r) ≡ n = cc in
    omega (arith, cars_le (bit r) (true→T (both (paired 20 0 false (bit r)) (all_hold sound_rules (bit r)) t).1)))
    (λ t. let h : None ≡ Some n = rw t at e in absurd (let z : ◌≡◌ {A = ℕ} 0 1 = cc in omega arith))

pub at_most_28 : AtMost28
unfolding total sound
at_most_28 r n e a = split (sound r)
    (λ t. let h : Some (cars (bit r)) ≡ Some n = rw t at e in
    let k : cars (bit r) ≡ n = cc in
    let (p, q) = both (paired 20 0 false (bit r)) (all_hold sound_rules (bit r)) t in
    omega (arith, cars_at_street (bit r) (true→T q) ((whole_iff_paired (bit r)).0 p) a))
    (λ t. let h : None ≡ Some n = rw t at e in absurd (let z : ◌≡◌ {A = ℕ} 0 1 = cc in omega arith))

pub thirty_cars : ThirtyCars
unfolding total sound paired cars
thirty_cars = refl

pub twenty_eight : TwentyEight
unfolding total sound paired cars
twenty_eight = (refl, refl)
