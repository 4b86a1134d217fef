-- A mask names places: what `&` with it and the machine's count of ones say of a number's bits there. Assumes nothing.
use mathlib.Core.Path.{◌≡◌, refl, sym, ap, ap₂, ◌∙◌}
use mathlib.Core.Bool.{Bool, true, false, cond, ◌&&◌}
use mathlib.Core.List.{List, ◌∷◌}
use Prim.Native.Nat.{ℕ, zero, suc, ◌/◌, ◌%◌, ◌^◌, ◌<◌, min}
use native.Mathlib.Nat.{pow-suc, div-div-eq-div-mul, div-one}
use native.Mathlib.Omega.{arith}
use lib.Arith.{bin_ind}
use lib.Bits.{bit_and, and_step, and_zero_r}
use lib.Count.{ones, ones_step}
use lib.Dec.{eqb}
use borrow.Author.Tests.{eqb-true, eqb-false, eq-eqb, ne_eqb}
use Rattle.bits.specs.Bits.{bit, count, all_set}
use Rattle.bits.specs.Places.{from, named, places}
use Rattle.bits.proofs.Cases.{split}
use Rattle.bits.proofs.Digits.{digit_mod}

pub half : (r j : ℕ) → r / 2 ^ j / 2 ≡ r / 2 ^ suc j
half r j = div-div-eq-div-mul r (2 ^ j) 2 ∙ ap (λ (x : ℕ). r / x) (sym (pow-suc 2 j))

ones_zero : ones 0 ≡ 0
unfolding ones
ones_zero = refl

none : (y : ℕ) → ones y ≡ 0 → y ≡ 0
none = bin_ind (λ (y : ℕ). ones y ≡ 0 → y ≡ 0) (λ e. refl) (λ y ih e. omega (arith, ones_step y, ih (omega (arith, ones_step y))))

and_half : (r j m : ℕ) → bit_and (r / 2 ^ j) m / 2 ≡ bit_and (r / 2 ^ suc j) (m / 2)
and_half r j m =
    let s = and_step (r / 2 ^ j) m in
    let e : bit_and (r / 2 ^ j) m / 2 ≡ bit_and (r / 2 ^ j / 2) (m / 2) = omega arith in
    e ∙ ap (λ (x : ℕ). bit_and x (m / 2)) (half r j)

and_low : (x m : ℕ) → bit_and x m % 2 ≡ min (x % 2) (m % 2)
and_low x m = omega (arith, and_step x m)

-- the occupied places that a mask names are counted by `&` and the count of ones
pub ones_and : (n j r m : ℕ) → m < 2 ^ n → ones (bit_and (r / 2 ^ j) m) ≡ count (named m (from j n)) (bit r)
ones_and zero j r m h =
    let e : m ≡ 0 = omega arith in
    ap (λ (x : ℕ). ones (bit_and (r / 2 ^ j) x)) e ∙ ap ones (and_zero_r (r / 2 ^ j)) ∙ ones_zero
ones_and (suc n) j r m h =
    go (bit m 0) refl (ones_and n (suc j) r (m / 2) (omega (arith, pow-suc 2 n)))
  where
    rest : List ℕ
    rest = named (m / 2) (from (suc j) n)

    go : (b : Bool) → bit m 0 ≡ b → ones (bit_and (r / 2 ^ suc j) (m / 2)) ≡ count rest (bit r) → ones (bit_and (r / 2 ^ j) m) ≡ count (cond b (j ∷ rest) rest) (bit r)
    go true e ih =
        omega
        (arith, ih, ones_step (bit_and (r / 2 ^ j) m), ap ones (and_half r j m), and_low (r / 2 ^ j) m, digit_mod (r / 2 ^ j), eqb-true (m / 1 % 2) 1 e)
    go false e ih =
        let q : m / 1 % 2 ≡ 1 → ⊥ = eqb-false (m / 1 % 2) 1 e in
        omega (arith, ih, ones_step (bit_and (r / 2 ^ j) m), ap ones (and_half r j m), and_low (r / 2 ^ j) m)

eq_digits : (y m : ℕ) → eqb y m ≡ (eqb (y % 2) (m % 2) && eqb (y / 2) (m / 2))
eq_digits y m = go (eqb (y % 2) (m % 2)) refl (eqb (y / 2) (m / 2)) refl
  where
    go : (a : Bool) → eqb (y % 2) (m % 2) ≡ a → (b : Bool) → eqb (y / 2) (m / 2) ≡ b → eqb y m ≡ (a && b)
    go true p true q = eq-eqb y m (omega (arith, eqb-true (y % 2) (m % 2) p, eqb-true (y / 2) (m / 2) q))
    go true p false q = ne_eqb y m (λ e. eqb-false (y / 2) (m / 2) q (ap (λ (x : ℕ). x / 2) e))
    go false p b q = ne_eqb y m (λ e. eqb-false (y % 2) (m % 2) p (ap (λ (x : ℕ). x % 2) e))

-- all the places that a mask names are occupied if `&` with it gives it back
pub all_and : (n j r m : ℕ) → m < 2 ^ n → eqb (bit_and (r / 2 ^ j) m) m ≡ all_set (named m (from j n)) (bit r)
all_and zero j r m h =
    let e : m ≡ 0 = omega arith in
    eq-eqb (bit_and (r / 2 ^ j) m) m (ap (bit_and (r / 2 ^ j)) e ∙ and_zero_r (r / 2 ^ j) ∙ sym e)
all_and (suc n) j r m h =
    eq_digits (bit_and (r / 2 ^ j) m) m
    ∙ go (bit m 0) refl (ap (λ (x : ℕ). eqb x (m / 2)) (and_half r j m) ∙ all_and n (suc j) r (m / 2) (omega (arith, pow-suc 2 n)))
  where
    rest : List ℕ
    rest = named (m / 2) (from (suc j) n)

    go : (b : Bool) → bit m 0 ≡ b → eqb (bit_and (r / 2 ^ j) m / 2) (m / 2) ≡ all_set rest (bit r)
        → (eqb (bit_and (r / 2 ^ j) m % 2) (m % 2) && eqb (bit_and (r / 2 ^ j) m / 2) (m / 2)) ≡ all_set (cond b (j ∷ rest) rest) (bit r)
    go true e ih =
        let q : m % 2 ≡ 1 = omega (arith, eqb-true (m / 1 % 2) 1 e) in
        let p : bit_and (r / 2 ^ j) m % 2 ≡ r / 2 ^ j % 2 = omega (arith, and_low (r / 2 ^ j) m) in
        ap₂ ◌&&◌ (ap₂ eqb p q) ih
    go false e ih =
        let n : m / 1 % 2 ≡ 1 → ⊥ = eqb-false (m / 1 % 2) 1 e in
        let q : bit_and (r / 2 ^ j) m % 2 ≡ m % 2 = omega (arith, and_low (r / 2 ^ j) m) in
        ap₂ ◌&&◌ (eq-eqb (bit_and (r / 2 ^ j) m % 2) (m % 2) q) ih

-- ---- a mask of 64 bits

module _ (r m : ℕ) (fits : m < 2 ^ 64) where
  pub ones_places : ones (bit_and r m) ≡ count (places m) (bit r)
  unfolding places
  ones_places = ap (λ (x : ℕ). ones (bit_and x m)) (sym (div-one r)) ∙ ones_and 64 0 r m fits

  pub all_places : eqb (bit_and r m) m ≡ all_set (places m) (bit r)
  unfolding places
  all_places = ap (λ (x : ℕ). eqb (bit_and x m) m) (sym (div-one r)) ∙ all_and 64 0 r m fits

  pub none_places : eqb (bit_and r m) 0 ≡ eqb (count (places m) (bit r)) 0
  none_places = split (eqb (bit_and r m) 0)
      (λ e. e ∙ sym (eq-eqb _ 0 (sym ones_places ∙ ap ones (eqb-true (bit_and r m) 0 e) ∙ ones_zero)))
      (λ e. e ∙ sym (ne_eqb _ 0 (λ z. eqb-false (bit_and r m) 0 e (none (bit_and r m) (ones_places ∙ z)))))
