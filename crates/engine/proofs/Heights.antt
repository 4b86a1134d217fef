-- The height of the lift as the code reads it: two bits as a number. Assumes nothing.
use mathlib.Core.Path.{◌≡◌, refl, ap₂, ◌∙◌}
use mathlib.Core.Bool.{Bool, true, false, cond}
use mathlib.Core.List.{[], ◌∷◌}
use Prim.Native.Nat.{ℕ, ◌+◌, ◌*◌, ◌/◌, ◌%◌, ◌^◌}
use native.Mathlib.Omega.{arith}
use lib.Dec.{eqb}
use Rattle.bits.specs.Bits.{bit, digit}
use Rattle.bits.proofs.Digits.{digit_mod}
use Rattle.bits.proofs.Masks.{half}
use Rattle.floor.specs.Tests.{holds, height_is, set, free, both}

-- the two bits of the height are its digits
number : (r : ℕ) → r / 2 ^ 53 % 4 ≡ digit (bit r 53) + 2 * digit (bit r 54)
number r = omega (arith, half r 53, digit_mod (r / 2 ^ 53), digit_mod (r / 2 ^ 54))

-- and so are the two lowest of any number
two_digits : (h : ℕ) → h % 4 ≡ digit (bit h 0) + 2 * digit (bit h 1)
two_digits h = omega (arith, digit_mod (h / 1), digit_mod (h / 2))

-- as a function of the bits of both
compared : (x y u v : Bool) → eqb (digit x + 2 * digit y) (digit u + 2 * digit v)
    ≡ holds (both (cond u (set (53 ∷ [])) (free (53 ∷ []))) (cond v (set (54 ∷ [])) (free (54 ∷ [])))) (λ k. cond (eqb k 53) x y)
compared true true true true = refl
compared true true true false = refl
compared true true false true = refl
compared true true false false = refl
compared true false true true = refl
compared true false true false = refl
compared true false false true = refl
compared true false false false = refl
compared false true true true = refl
compared false true true false = refl
compared false true false true = refl
compared false true false false = refl
compared false false true true = refl
compared false false true false = refl
compared false false false true = refl
compared false false false false = refl

-- the lift is at a height if the digits are the same
pub height_law : (r h : ℕ) → eqb (r / 2 ^ 53 % 4) (h % 4) ≡ holds (height_is h) (bit r)
height_law r h = ap₂ eqb (number r) (two_digits h) ∙ compared (bit r 53) (bit r 54) (bit h 0) (bit h 1) ∙ asked (bit h 0) (bit h 1)
  where
    asked : (u v : Bool) → holds (both (cond u (set (53 ∷ [])) (free (53 ∷ []))) (cond v (set (54 ∷ [])) (free (54 ∷ [])))) (λ k. cond (eqb k 53) (bit r 53) (bit r 54))
        ≡ holds (both (cond u (set (53 ∷ [])) (free (53 ∷ []))) (cond v (set (54 ∷ [])) (free (54 ∷ [])))) (bit r)
    asked true true = refl
    asked true false = refl
    asked false true = refl
    asked false false = refl
