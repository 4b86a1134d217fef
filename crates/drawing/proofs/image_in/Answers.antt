use mathlib.Core.Path.{◌≡◌, refl, ap, ◌∙◌}
use Prim.Native.Nat.{ℕ, ◌-◌, ◌≤◌}
use native.Mathlib.Omega.{arith}
use Rattle.bits.specs.Bits.{Bits, packed, image}
use Rattle.bits.proofs.Packing.{Packing, packs}
use Rattle.drawing.proofs.image_in.Goals as goal

starts : {f : Bits} → Packing f 64 0
unfolding packed
starts = record { low = omega arith; fits = omega arith; held = refl }

ends : {f : Bits} {k acc : ℕ} → Packing f k acc → k ≤ 0 → acc ≡ image f
ends {f} {k} inv h = let z : k ≡ 0 = omega arith in inv.held ∙ ap (λ (j : ℕ). packed (64 - j) j f) z

pub loop-k-preserved : goal.loop-k-preserved
loop-k-preserved c = packs c.loop-k.invariant c.loop-k-test.true c.bit_in-b.ensures

pub loop-k-init : goal.loop-k-init
loop-k-init c = starts

pub overflow_mul-acc : goal.overflow_mul-acc
overflow_mul-acc c =
    let next = packs c.loop-k.invariant c.loop-k-test.true c.bit_in-b.ensures in
    omega (arith, next.fits)

pub overflow_add-acc : goal.overflow_add-acc
overflow_add-acc c =
    let next = packs c.loop-k.invariant c.loop-k-test.true c.bit_in-b.ensures in
    omega (arith, next.fits)

pub returns : goal.returns
returns c = ends c.loop-k.invariant c.loop-k-test.false
