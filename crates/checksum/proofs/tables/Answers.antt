-- `checksum::tables` meets its contract: entry after entry (proofs/Running.antt). Assumes nothing.
use mathlib.Core.Path.{◌≡◌, ◌∙◌}
use native.Mathlib.Omega.{arith}
use Rattle.checksum.proofs.Running.{made_none, made_more, made_all, entry_first, entry_next}
use Rattle.checksum.proofs.tables.Goals as goal

pub loop-p-init : goal.loop-p-init
loop-p-init c = (made_none, (omega arith))

pub bounds-t-p : goal.bounds-t-p
bounds-t-p c = omega (arith, c.loop-p.invariant.0.long)

pub loop-p-preserved : goal.loop-p-preserved
loop-p-preserved c = (made_more c.loop-p.invariant.0 (omega arith) (c.eight.ensures ∙ entry_first c.loop-p.p (omega arith)), (omega arith))

pub loop-p-2-init : goal.loop-p-2-init
loop-p-2-init c = let e : c.loop-p.p ≡ 256 = omega arith in (rw e at c.loop-p.invariant.0, (omega arith), (omega arith))

pub bounds-t-p-in-loop-p-2 : goal.bounds-t-p-in-loop-p-2
bounds-t-p-in-loop-p-2 c = omega (arith, c.loop-p-2.invariant.0.long)

pub bounds-t-p-in-loop-p-2-2 : goal.bounds-t-p-in-loop-p-2-2
bounds-t-p-in-loop-p-2-2 c = omega (arith, c.loop-p-2.invariant.0.long)

pub loop-p-2-preserved : goal.loop-p-2-preserved
loop-p-2-preserved c = (made_more c.loop-p-2.invariant.0 (omega arith) (c.eight-in-loop-p-2.ensures ∙ entry_next c.loop-p-2.invariant.0 c.loop-p-2.invariant.1), (omega arith), (omega arith))

pub returns : goal.returns
returns c = made_all c.loop-p-2.invariant.0 c.loop-p-2-test.false
