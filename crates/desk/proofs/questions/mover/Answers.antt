-- `desk::questions::mover` meets its contract: a search upward. Assumes nothing.
use Rattle.desk.proofs.Asking.{moves_asked, mover_some, mover_none}
use Rattle.bits.proofs.Least.{start, turn, here, past}
use mathlib.Core.Path.{sym, ◌∙◌}
use native.Mathlib.Omega.{arith}
use Rattle.desk.proofs.questions.mover.Goals as goal

pub loop-i-init : goal.loop-i-init
loop-i-init c = start _ _

pub returns-then-bit-is_under : goal.returns-then-bit-is_under
returns-then-bit-is_under c =
    mover_some _ _
    (here c.loop-i.invariant (omega arith) (sym (moves_asked _ _ _ _ c.bit.ensures c.area_at.ensures c.is_under.ensures) ∙ c.if-bit-is_under.true))
    (omega arith)

pub loop-i-preserved : goal.loop-i-preserved
loop-i-preserved c = turn c.loop-i.invariant (omega arith) (sym (moves_asked _ _ _ _ c.bit.ensures c.area_at.ensures c.is_under.ensures) ∙ c.if-bit-is_under.false)

pub returns : goal.returns
returns c = mover_none _ _ (past c.loop-i.invariant (omega arith))
