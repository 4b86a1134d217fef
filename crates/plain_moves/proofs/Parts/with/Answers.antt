-- `plain_moves::Parts::with` meets its contract: the cells, the slots and the lift of both (proofs/Sharing.antt). Assumes nothing.
use Rattle.plain_moves.proofs.Sharing.{both_together}
use Rattle.plain_moves.proofs.Parts.with.Goals as goal

pub returns : goal.returns
returns c =
    let a = c.args in
    both_together a.self a.q c.cells_with.ensures c.slots_with.ensures
