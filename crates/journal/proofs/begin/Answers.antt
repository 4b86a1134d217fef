-- `journal::begin` meets its contract. Assumes nothing.
use Rattle.journal.proofs.begin.Goals as goal

pub returns : goal.returns
returns c = rw c.start.ensures
