-- `cards::stand_right` meets its contract: each element in turn (proofs/Seeking.antt). Assumes nothing.
use native.Mathlib.Omega.{arith}
use Rattle.bits.proofs.Least.{start, turn}
use Rattle.cards.proofs.Seeking.{stands_wrong, stands_right, stand_all}
use Rattle.cards.proofs.stand_right.Goals as goal

pub loop-j-init : goal.loop-j-init
loop-j-init c = start _ _

pub returns-then-n-j : goal.returns-then-n-j
returns-then-n-j c =
    let a = c.args in
    stands_wrong a.r a.n c.loop-j.j c.bears.ensures (omega arith) c.if-n-j.true

pub loop-j-preserved : goal.loop-j-preserved
loop-j-preserved c =
    let a = c.args in
    turn c.loop-j.invariant (omega arith) (stands_right a.r a.n c.loop-j.j c.bears.ensures c.if-n-j.false)

pub returns : goal.returns
returns c = stand_all _ _ c.loop-j.invariant (omega arith)
