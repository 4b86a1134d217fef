-- Every layout of a record has the same number of cars: the places that it covers are counted once by car and once by place.
-- Assumes nothing.
use mathlib.Core.Path.{◌≡◌, refl, sym}
use mathlib.Core.Logic.{inl, inr, ⊎_elim}
use mathlib.Core.List.{List, [], ◌∷◌}
use Prim.Native.Nat.{ℕ, zero, suc, ◌+◌, ◌*◌, ◌≤◌, ◌<◌}
use native.Mathlib.Nat.{eq-or-lt_of_le}
use native.Mathlib.Omega.{arith}
use lib.ListN.{length}
use Rattle.bits.specs.Bits.{Bits, digit, count}
use Rattle.bits.specs.Places.{from}
use Rattle.floor.specs.Floor.{raised_car}
use Rattle.floor.specs.Cars.{Car, pair, single, raised, at, covers, covered, AllStand, Layout, cars}
use Rattle.floor.proofs.Layouts.{at_same, at_other}

-- the sum of g over the n places from k on
summed : ℕ → ℕ → (ℕ → ℕ) → ℕ
summed zero k g = 0
summed (suc n) k g = g k + summed n (suc k) g

sum_add : (n k : ℕ) (g h : ℕ → ℕ) → summed n k (λ j. g j + h j) ≡ summed n k g + summed n k h
unfolding summed
sum_add zero k g h = refl
sum_add (suc n) k g h = omega (arith, sum_add n (suc k) g h)

sum_zero : (n k : ℕ) (g : ℕ → ℕ) → ((j : ℕ) → k ≤ j → j < n + k → g j ≡ 0) → summed n k g ≡ 0
unfolding summed
sum_zero zero k g h = refl
sum_zero (suc n) k g h = omega (arith, h k (omega arith) (omega arith), sum_zero n (suc k) g (λ j a b. h j (omega arith) (omega arith)))

sum_at : (n k c : ℕ) → k ≤ c → c < n + k → summed n k (at c) ≡ 1
unfolding summed
sum_at zero k c a b = absurd (omega arith)
sum_at (suc n) k c a b = ⊎_elim
    (λ i. omega (arith, at_same c k (sym i), sum_zero n (suc k) (at c) (λ j x y. at_other c j (omega arith))))
    (λ l. omega (arith, at_other c k (omega arith), sum_at n (suc k) c l (omega arith))) (eq-or-lt_of_le a)

sum_count : (n k : ℕ) (f : Bits) (g : ℕ → ℕ) → ((j : ℕ) → k ≤ j → j < n + k → g j ≡ digit (f j)) → summed n k g ≡ count (from k n) f
unfolding summed
sum_count zero k f g h = refl
sum_count (suc n) k f g h = omega (arith, h k (omega arith) (omega arith), sum_count n (suc k) f g (λ j a b. h j (omega arith) (omega arith)))

-- how many cars of a list are of each kind
pairs : List Car → ℕ
pairs [] = 0
pairs (pair c ∷ l) = suc (pairs l)
pairs (single c ∷ l) = pairs l
pairs (raised ∷ l) = pairs l

singles : List Car → ℕ
singles [] = 0
singles (pair c ∷ l) = singles l
singles (single c ∷ l) = suc (singles l)
singles (raised ∷ l) = singles l

lifted : List Car → ℕ
lifted [] = 0
lifted (pair c ∷ l) = lifted l
lifted (single c ∷ l) = lifted l
lifted (raised ∷ l) = suc (lifted l)

-- what each kind covers
record Tally (l : List Car) : Type 0 where
  all : length l ≡ pairs l + (singles l + lifted l)
  row1 : summed 20 0 (covered l) ≡ pairs l * 2
  rows : summed 20 20 (covered l) ≡ singles l
  lift : covered l raised_car ≡ lifted l

tally : (l : List Car) → AllStand l → Tally l
unfolding pairs singles lifted covered AllStand
tally [] s = record { all = refl; row1 = sum_zero 20 0 (λ j. 0) (λ j a b. refl); rows = sum_zero 20 20 (λ j. 0) (λ j a b. refl); lift = refl }
tally (pair c ∷ l) s =
    let t = tally l s.1 in
    record {
      all = omega (arith, t.all);
      row1 = omega (arith, t.row1, sum_add 20 0 (covers (pair c)) (covered l), sum_add 20 0 (at c) (at (suc c)), sum_at 20 0 c (omega arith) (omega arith), sum_at 20 0 (suc c) (omega arith) (omega arith));
      rows = omega (arith, t.rows, sum_add 20 20 (covers (pair c)) (covered l), sum_zero 20 20 (covers (pair c)) (λ j a b. omega (arith, at_other c j (omega arith), at_other (suc c) j (omega arith))));
      lift = omega (arith, t.lift, at_other c raised_car (omega arith), at_other (suc c) raised_car (omega arith));
    }
tally (single c ∷ l) s =
    let t = tally l s.1 in
    record {
      all = omega (arith, t.all);
      row1 = omega (arith, t.row1, sum_add 20 0 (at c) (covered l), sum_zero 20 0 (at c) (λ j a b. at_other c j (omega arith)));
      rows = omega (arith, t.rows, sum_add 20 20 (at c) (covered l), sum_at 20 20 c (omega arith) (omega arith));
      lift = omega (arith, t.lift, at_other c raised_car (omega arith));
    }
tally (raised ∷ l) s =
    let t = tally l s.1 in
    record {
      all = omega (arith, t.all);
      row1 = omega (arith, t.row1, sum_add 20 0 (at raised_car) (covered l), sum_zero 20 0 (at raised_car) (λ j a b. at_other raised_car j (omega arith)));
      rows = omega (arith, t.rows, sum_add 20 20 (at raised_car) (covered l), sum_zero 20 20 (at raised_car) (λ j a b. at_other raised_car j (omega arith)));
      lift = omega (arith, t.lift, at_same raised_car raised_car refl);
    }

pub layout_cars : (f : Bits) (l : List Car) → Layout f l → length l ≡ cars f
unfolding cars
layout_cars f l y =
    let t = tally l y.stand in
    omega (
      arith,
      t.all,
      t.row1,
      t.rows,
      t.lift,
      y.cover raised_car (inr refl),
      sum_count 20 0 f (covered l) (λ j a b. y.cover j (inl (omega arith))),
      sum_count 20 20 f (covered l) (λ j a b. y.cover j (inl (omega arith))),
    )
