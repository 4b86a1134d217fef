-- `engine::moves::shuttles_next` meets its contract, by direction. Assumes nothing.
use borrow.Author.Tests.{eq-eqb, ne_eqb}
use Rattle.engine.proofs.moves.shuttles_next.Goals as goal

pub returns-then-toward-eq1 : goal.returns-then-toward-eq1
returns-then-toward-eq1 c = rw (c.shifted-moved.ensures, c.within.ensures, c.carried.ensures, c.carried-then-toward-eq1.ensures, eq-eqb _ _ c.if-toward-eq1.true)

pub returns : goal.returns
returns c = rw (c.shifted-moved.ensures, c.within.ensures, c.carried-2.ensures, c.carried-3.ensures, ne_eqb _ _ c.if-toward-eq1.false)
