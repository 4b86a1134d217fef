-- `service::buffer::shift` meets its contract: each turn keeps `Shifted`. Assumes nothing.
use mathlib.Core.Path.{refl}
use native.Mathlib.Omega.{arith}
use lib.ListN.{length-set}
use Rattle.service.proofs.Shifting.{nothing_moved, one_moved, all_moved}
use Rattle.service.proofs.buffer.shift.Goals as goal

pub loop-i-init : goal.loop-i-init
loop-i-init c = (refl, nothing_moved _ _ _)

pub loop-i-preserved : goal.loop-i-preserved
loop-i-preserved c = (simp length-set c.loop-i.invariant.0, one_moved c.requires.1 c.loop-i.invariant.1 (omega arith))

pub returns : goal.returns
returns c = all_moved c.requires.1 c.loop-i.invariant.1 (omega arith)
