-- The bits that a mask touches made anew, and all others kept. Assumes nothing.
use mathlib.Core.Path.{◌≡◌, refl, ap, ap₂, ◌∙◌}
use mathlib.Core.Bool.{Bool, true, false, cond, not, ◌&&◌, ◌||◌}
use Prim.Native.Nat.{ℕ, ◌-◌, ◌^◌, ◌<◌}
use native.Mathlib.Omega.{arith}
use lib.Bits.{bit_and, bit_or, and_lt, or_lt}
use Rattle.bits.specs.Bits.{bit, image, laid}
use Rattle.bits.proofs.Digits.{by_bits}
use Rattle.bits.proofs.Operations.{bit_and_lem, bit_or_lem, bit_not}

-- a bit of either number
choice : (a b t : Bool) → ((a && not t) || (b && t)) ≡ cond t b a
choice true true true = refl
choice true true false = refl
choice true false true = refl
choice true false false = refl
choice false true true = refl
choice false true false = refl
choice false false true = refl
choice false false false = refl

-- the code's record has the new bits where it touches, and the old ones elsewhere
pub laid_law : (r touched new : ℕ) → r < 2 ^ 64 → touched < 2 ^ 64 → new < 2 ^ 64
    → bit_or (bit_and r (2 ^ 64 - 1 - touched)) (bit_and new touched) ≡ image (laid r touched new)
laid_law r touched new hr ht hn =
    by_bits _ (laid r touched new)
    (or_lt 64 (bit_and r (2 ^ 64 - 1 - touched)) (bit_and new touched) (and_lt 64 r (2 ^ 64 - 1 - touched) hr (omega arith)) (and_lt 64 new touched hn ht))
    (λ k h.
    bit_or_lem (bit_and r (2 ^ 64 - 1 - touched)) (bit_and new touched) k
    ∙ ap₂ ◌||◌ (bit_and_lem r (2 ^ 64 - 1 - touched) k ∙ ap (λ (b : Bool). bit r k && b) (bit_not 64 touched k ht h)) (bit_and_lem new touched k)
    ∙ choice (bit r k) (bit new k) (bit touched k))
