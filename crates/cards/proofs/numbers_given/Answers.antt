-- `cards::numbers_given` meets its contract: the loop fills the array by element (proofs/Giving.antt). Assumes nothing.
use native.Mathlib.Omega.{arith}
use Rattle.cards.proofs.Giving.{giving_starts, gives_turn, giving_ends}
use Rattle.cards.proofs.numbers_given.Goals as goal

pub loop-j-init : goal.loop-j-init
loop-j-init c = giving_starts _ _

pub loop-j-preserved : goal.loop-j-preserved
loop-j-preserved c =
    gives_turn c.loop-j.invariant (omega arith) c.well_formed.1.0.1.0.1 c.bears-here.ensures c.given.ensures

pub overflow_add-t : goal.overflow_add-t
overflow_add-t c =
    let turn = gives_turn c.loop-j.invariant (omega arith) c.well_formed.1.0.1.0.1 c.bears-here.ensures c.given.ensures in
    omega (arith, turn.few)

pub returns : goal.returns
returns c = giving_ends _ c.loop-j.invariant (omega arith)
