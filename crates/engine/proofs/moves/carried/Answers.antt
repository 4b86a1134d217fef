-- `engine::moves::carried` meets its contract, by whether all of the bits are 1. Assumes nothing.
use Rattle.engine.proofs.moves.carried.Goals as goal

pub returns-then-r-from : goal.returns-then-r-from
returns-then-r-from c = rw c.if-r-from.true

pub returns : goal.returns
returns c = rw c.if-r-from.false
