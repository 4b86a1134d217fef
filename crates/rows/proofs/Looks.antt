-- A masked comparison is a look at each bit that the mask names. Assumes nothing.
use mathlib.Core.Path.{◌≡◌, refl, sym, ap, ap₂, ◌∙◌}
use mathlib.Core.Bool.{Bool, true, false, cond, not, ◌&&◌}
use mathlib.Core.List.{List, ◌∷◌, map}
use Prim.Native.Nat.{ℕ, zero, suc, ◌/◌, ◌%◌, ◌^◌, ◌<◌, min}
use native.Mathlib.Nat.{pow-suc, div-one, mod-lt, zero-lt-suc}
use native.Mathlib.Omega.{arith}
use lib.Bits.{bit_and, and_step, and_zero_r}
use lib.Dec.{eqb}
use borrow.Author.Tests.{eqb-true, eqb-false, eq-eqb, ne_eqb}
use Rattle.bits.specs.Bits.{bit}
use Rattle.bits.specs.Places.{from, named, places}
use Rattle.bits.proofs.Masks.{half}
use Rattle.rows.proofs.Steps.{Atom, Look}
use Rattle.rows.proofs.Flat.{all_meet}

and_half : (r j m : ℕ) → bit_and (r / 2 ^ j) m / 2 ≡ bit_and (r / 2 ^ suc j) (m / 2)
and_half r j m =
    let s = and_step (r / 2 ^ j) m in
    let e : bit_and (r / 2 ^ j) m / 2 ≡ bit_and (r / 2 ^ j / 2) (m / 2) = omega arith in
    e ∙ ap (λ (x : ℕ). bit_and x (m / 2)) (half r j)

and_low : (x m : ℕ) → bit_and x m % 2 ≡ min (x % 2) (m % 2)
and_low x m = omega (arith, and_step x m)

eq_digits : (y m : ℕ) → eqb y m ≡ (eqb (y % 2) (m % 2) && eqb (y / 2) (m / 2))
eq_digits y m = go (eqb (y % 2) (m % 2)) refl (eqb (y / 2) (m / 2)) refl
  where
    go : (a : Bool) → eqb (y % 2) (m % 2) ≡ a → (b : Bool) → eqb (y / 2) (m / 2) ≡ b → eqb y m ≡ (a && b)
    go true p true q = eq-eqb y m (omega (arith, eqb-true (y % 2) (m % 2) p, eqb-true (y / 2) (m / 2) q))
    go true p false q = ne_eqb y m (λ e. eqb-false (y / 2) (m / 2) q (ap (λ (x : ℕ). x / 2) e))
    go false p b q = ne_eqb y m (λ e. eqb-false (y % 2) (m % 2) p (ap (λ (x : ℕ). x % 2) e))

-- two digits are the same
same : (x y : ℕ) → x < 2 → y < 2 → eqb x y ≡ cond (eqb y 1) (eqb x 1) (not (eqb x 1))
same zero zero h l = refl
same zero (suc zero) h l = refl
same (suc zero) zero h l = refl
same (suc zero) (suc zero) h l = refl
same zero (suc (suc y)) h l = absurd (omega (arith, l))
same (suc zero) (suc (suc y)) h l = absurd (omega (arith, l))
same (suc (suc x)) y h l = absurd (omega (arith, h))

abbrev looks : ℕ → List ℕ → List Atom
looks need ks = map (λ k. Look (bit need k) k) ks

look_and : (n j r need m : ℕ) → m < 2 ^ n → bit_and (need / 2 ^ j) m ≡ need / 2 ^ j
    → eqb (bit_and (r / 2 ^ j) m) (need / 2 ^ j) ≡ all_meet (looks need (named m (from j n))) (bit r)
unfolding all_meet
look_and zero j r need m h s =
    let e : m ≡ 0 = omega arith in
    eq-eqb (bit_and (r / 2 ^ j) m) (need / 2 ^ j)
    (ap (bit_and (r / 2 ^ j)) e ∙ and_zero_r (r / 2 ^ j) ∙ sym (and_zero_r (need / 2 ^ j)) ∙ ap (bit_and (need / 2 ^ j)) (sym e) ∙ s)
look_and (suc n) j r need m h s =
    eq_digits (bit_and (r / 2 ^ j) m) (need / 2 ^ j)
    ∙ go (bit m 0) refl (ap₂ eqb (and_half r j m) (half need j) ∙ look_and n (suc j) r need (m / 2) (omega (arith, pow-suc 2 n))
    (sym (and_half need j m) ∙ ap (λ (x : ℕ). x / 2) s ∙ half need j))
  where
    rest : List ℕ
    rest = named (m / 2) (from (suc j) n)

    go : (b : Bool) → bit m 0 ≡ b → eqb (bit_and (r / 2 ^ j) m / 2) (need / 2 ^ j / 2) ≡ all_meet (looks need rest) (bit r)
        → (eqb (bit_and (r / 2 ^ j) m % 2) (need / 2 ^ j % 2) && eqb (bit_and (r / 2 ^ j) m / 2) (need / 2 ^ j / 2))
        ≡ all_meet (looks need (cond b (j ∷ rest) rest)) (bit r)
    go true e ih =
        let q : m % 2 ≡ 1 = omega (arith, eqb-true (m / 1 % 2) 1 e) in
        let p : bit_and (r / 2 ^ j) m % 2 ≡ r / 2 ^ j % 2 = omega (arith, and_low (r / 2 ^ j) m) in
        ap₂ ◌&&◌
        (ap (λ (x : ℕ). eqb x (need / 2 ^ j % 2)) p
        ∙ same (r / 2 ^ j % 2) (need / 2 ^ j % 2) (mod-lt (r / 2 ^ j) (zero-lt-suc 1)) (mod-lt (need / 2 ^ j) (zero-lt-suc 1)))
        ih
    go false e ih =
        let k : m / 1 % 2 ≡ 1 → ⊥ = eqb-false (m / 1 % 2) 1 e in
        let p : bit_and (r / 2 ^ j) m % 2 ≡ 0 = omega (arith, and_low (r / 2 ^ j) m) in
        let q : need / 2 ^ j % 2 ≡ 0 = omega (arith, and_low (need / 2 ^ j) m, ap (λ (x : ℕ). x % 2) s) in
        ap₂ ◌&&◌ (eq-eqb (bit_and (r / 2 ^ j) m % 2) (need / 2 ^ j % 2) (p ∙ sym q)) ih

-- a comparison under a mask of 64 bits, with a number within the mask
pub look_right : (r care need : ℕ) → care < 2 ^ 64 → bit_and need care ≡ need
    → eqb (bit_and r care) need ≡ all_meet (looks need (places care)) (bit r)
unfolding places
look_right r care need h s =
    ap₂ (λ (x y : ℕ). eqb (bit_and x care) y) (sym (div-one r)) (sym (div-one need))
    ∙ look_and 64 0 r need care h (ap (λ (x : ℕ). bit_and x care) (div-one need) ∙ s ∙ sym (div-one need))
