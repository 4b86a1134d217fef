-- `plain_moves::areas::of_rotate` meets its contract: the loop marks a cell on each side at a time (proofs/Marking.antt). Assumes nothing.
use mathlib.Core.Path.{refl}
use native.Mathlib.Omega.{arith}
use Rattle.plain_moves.proofs.Marking.{beside_lift, beside_more, rotate_area}
use Rattle.plain_moves.proofs.areas.of_rotate.Goals as goal

pub loop-beside-init : goal.loop-beside-init
unfolding beside_lift
loop-beside-init c = (refl, (omega arith))

pub loop-beside-preserved : goal.loop-beside-preserved
loop-beside-preserved c = (beside_more _ c.loop-beside.invariant.0, (omega arith))

pub returns : goal.returns
returns c = rotate_area c.loop-beside.invariant.0 (omega arith)
