-- `plain_moves::Parts::meets` meets its contract: each part in turn (proofs/Sharing.antt). Assumes nothing.
use native.Mathlib.Omega.{arith}
use Rattle.bits.proofs.Least.{start, turn}
use Rattle.plain_moves.proofs.Sharing.{one_meets, not_here, none_meets}
use Rattle.plain_moves.proofs.Parts.meets.Goals as goal

pub loop-k-init : goal.loop-k-init
loop-k-init c = start _ _

pub returns-then-has : goal.returns-then-has
returns-then-has c =
    let a = c.args in
    one_meets a.self a.q c.loop-k-test.true c.has.ensures c.has-in-loop-k.ensures c.if-has.true

pub loop-k-preserved : goal.loop-k-preserved
loop-k-preserved c =
    let a = c.args in
    turn c.loop-k.invariant (omega arith) (not_here a.self a.q c.loop-k.k c.has.ensures c.has-in-loop-k.ensures c.if-has.false)

pub returns : goal.returns
returns c = let a = c.args in none_meets a.self a.q c.loop-k.invariant (omega arith)
