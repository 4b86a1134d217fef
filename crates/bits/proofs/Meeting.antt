-- Tests of all bits of a number at once: whether each of n marks stands, and whether two masks have a bit in common. Assumes nothing.
use Prim.Native.Nat.{ℕ, ◌-◌, ◌^◌, ◌<◌}
use native.Mathlib.Omega.{arith}
use native.Mathlib.Nat.{lt_of_le_of_lt}
use mathlib.Core.Path.{◌≡◌, sym, ◌∙◌}
use mathlib.Core.Bool.{false, not, ◌&&◌}
use lib.Dec.{eqb}
use lib.Pow.{pow_pos}
use lib.Bits.{bit_and, and_le_l}
use borrow.Author.Tests.{eqb-true, eqb-false, not-false}
use Rattle.bits.specs.Bits.{bit}
use Rattle.bits.specs.Search.{some}
use Rattle.bits.proofs.Cases.{split}
use Rattle.bits.proofs.Search.{none_at, none_is}
use Rattle.bits.proofs.Digits.{bit_ext, bit_none, bit_ones}
use Rattle.bits.proofs.Operations.{bit_and_lem}

-- of n marks one is missing, exactly if the number isn't all ones
pub full : (n a : ℕ) → a < 2 ^ n → some n (λ j. not (bit a j)) ≡ not (eqb a (2 ^ n - 1))
full n a h = split (eqb a (2 ^ n - 1))
    (λ t. rw t (none_is n _ (λ j l. rw (eqb-true a (2 ^ n - 1) t, bit_ones n j l))))
    (λ t. split (some n (λ j. not (bit a j))) (λ u. rw (t, u)) (λ u. absurd (eqb-false a (2 ^ n - 1) t (ones u))))
  where
    ones : some n (λ j. not (bit a j)) ≡ false → a ≡ 2 ^ n - 1
    ones u = bit_ext n a (2 ^ n - 1) h (omega (arith, pow_pos n)) (λ k l. not-false (bit a k) (none_at n _ u k l) ∙ sym (bit_ones n k l))

-- two masks of n bits meet, exactly if their `&` isn't 0
pub meet : (n a b : ℕ) → a < 2 ^ n → some n (λ k. bit a k && bit b k) ≡ not (eqb (bit_and a b) 0)
meet n a b h = split (eqb (bit_and a b) 0)
    (λ t. rw t (none_is n _ (λ j l. sym (bit_and_lem a b j) ∙ rw (eqb-true (bit_and a b) 0 t) (bit_none j))))
    (λ t. split (some n (λ k. bit a k && bit b k)) (λ u. rw (t, u)) (λ u. absurd (eqb-false (bit_and a b) 0 t (zeros u))))
  where
    zeros : some n (λ k. bit a k && bit b k) ≡ false → bit_and a b ≡ 0
    zeros u = bit_ext n (bit_and a b) 0 (lt_of_le_of_lt (and_le_l a b) h) (pow_pos n) (λ k l. bit_and_lem a b k ∙ none_at n _ u k l ∙ sym (bit_none k))
