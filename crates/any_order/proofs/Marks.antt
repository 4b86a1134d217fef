-- Marks as numbers: the real station holds its marks in the bits of a byte. One more mark is `|` with a power of two, no mark is 0.
-- Assumes nothing.
use Prim.Native.Nat.{ℕ, ◌^◌}
use mathlib.Core.Path.{◌≡◌, ◌∙◌, fun_ext}
use mathlib.Core.Bool.{false, or_comm}
use lib.Dec.{eqb}
use lib.Bits.{bit_or}
use Rattle.bits.specs.Bits.{bit}
use Rattle.bits.proofs.Digits.{bit_none, bit_pow}
use Rattle.bits.proofs.Operations.{bit_or_lem}
use Rattle.any_order.proofs.Machine.{mark}

pub unmarked : bit 0 ≡ (λ j. false)
unmarked = fun_ext bit_none

pub marks : (a j : ℕ) → bit (bit_or a (2 ^ j)) ≡ mark j (bit a)
marks a j = fun_ext (λ i. bit_or_lem a (2 ^ j) i ∙ rw (bit_pow j i) (or_comm (bit a i) (eqb j i)))
