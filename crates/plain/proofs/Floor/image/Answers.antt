-- `plain::Floor::image` meets its contract: the loop makes the number from its top bit down. Assumes nothing.
use native.Mathlib.Omega.{arith}
use Rattle.bits.proofs.Packing.{packs}
use Rattle.plain.proofs.Imaging.{nothing_packed, all_packed}
use Rattle.plain.proofs.Floor.image.Goals as goal

pub loop-k-init : goal.loop-k-init
loop-k-init c = nothing_packed _

pub loop-k-preserved : goal.loop-k-preserved
loop-k-preserved c = packs c.loop-k.invariant (omega arith) c.bit-one.ensures

pub returns : goal.returns
returns c = all_packed c.loop-k.invariant (omega arith)

pub overflow_mul-r : goal.overflow_mul-r
overflow_mul-r c = omega (arith, (packs c.loop-k.invariant (omega arith) c.bit-one.ensures).fits)

pub overflow_add-r : goal.overflow_add-r
overflow_add-r c = omega (arith, (packs c.loop-k.invariant (omega arith) c.bit-one.ensures).fits)
