-- `plain_moves::belts::behind` meets its contract: each return is one case of the definition. Assumes nothing.
use borrow.Author.Tests.{ne_eqb}
use Rattle.plain_moves.specs.Private.{cell_behind}
use Rattle.plain_moves.proofs.Finding.{left_behind}
use Rattle.plain_moves.proofs.belts.behind.Goals as goal

pub returns : goal.returns
unfolding cell_behind
returns c = rw (ne_eqb _ _ c.if-toward-eq1.false)

pub returns-then-toward-eq1 : goal.returns-then-toward-eq1
returns-then-toward-eq1 c = left_behind c.args.n c.args.cell c.if-toward-eq1.true c.checked_sub.ensures
