-- `panel::deciding::from_end` meets its contract: each return is one case of the definition. Assumes nothing.
use Rattle.panel.specs.Private.{cell_from_end}
use Rattle.panel.proofs.deciding.from_end.Goals as goal

pub returns-then-up : goal.returns-then-up
unfolding cell_from_end
returns-then-up c = rw c.if-up.true

pub returns : goal.returns
unfolding cell_from_end
returns c = rw c.if-up.false
