-- The checksum's promises are kept. Assumes nothing.
use mathlib.Core.Path.{◌≡◌, refl, sym, ap, ◌∙◌}
use mathlib.Core.Bool.{Bool, cond}
use mathlib.Core.List.{List}
use Prim.Native.Nat.{ℕ, ◌^◌, ◌<◌}
use native.Mathlib.Omega.{arith}
use lib.Bits.{xor_lt}
use lib.ListN.{length}
use borrow.Author.Tests.{eq-eqb, ne_eqb}
use Rattle.checksum.specs.Checksum.{over_bits, low_bits, bits_of, inverted, crc_over}
use Rattle.checksum.specs.Slices.{slices, over_fours, crc_by}
use Rattle.checksum.specs.Promises.{InRange, Continues, BySlices, Published}
use Rattle.checksum.proofs.Xor.{xor_twice}
use Rattle.checksum.proofs.Moves.{over_append, over_lt}
use Rattle.checksum.proofs.Slices.{slices_long, bits_append, by_fours}

pub inverted_lt : (c : ℕ) → c < 2 ^ 32 → inverted c < 2 ^ 32
inverted_lt c h = xor_lt 32 c 0xFFFFFFFF h (omega arith)

pub crc_lt : (c : ℕ) (bytes : List ℕ) → c < 2 ^ 32 → crc_over c bytes < 2 ^ 32
unfolding crc_over
crc_lt c bytes h = inverted_lt _ (over_lt (inverted c) (bits_of bytes) (inverted_lt c h))

pub in_range : InRange
in_range c bytes h = crc_lt c bytes h

pub continues : Continues
unfolding crc_over
continues c a b =
    let s = over_bits (inverted c) (bits_of a) in
    ap inverted (ap (over_bits (inverted c)) (bits_append a b) ∙ over_append (inverted c) (bits_of a) (bits_of b)
    ∙ ap (λ (x : ℕ). over_bits x (bits_of b)) (sym (xor_twice s 0xFFFFFFFF)))

pub by_slices : BySlices
unfolding crc_by crc_over
by_slices c bytes h b =
    rw (eq-eqb (length slices) 1024 slices_long) (ap inverted (by_fours (inverted c) bytes (inverted_lt c h) b))

pub published : Published
unfolding crc_over over_bits bits_of low_bits
published = refl

-- what some tables give
module _ (t : List ℕ) (c : ℕ) (bytes : List ℕ) where
  these : Bool → ℕ
  these b = cond b (inverted (over_fours t (inverted c) bytes)) 0

  pub by_few : (length t ≡ 1024 → ⊥) → 0 ≡ crc_by t c bytes
  unfolding crc_by these
  by_few n = ap these (sym (ne_eqb (length t) 1024 n))

  pub by_enough : {s : ℕ} → length t ≡ 1024 → s ≡ over_fours t (inverted c) bytes → inverted s ≡ crc_by t c bytes
  unfolding crc_by these
  by_enough n e = ap inverted e ∙ ap these (sym (eq-eqb (length t) 1024 n))
