-- `plain_moves::Parts::has` meets its contract: each return is one case of the definition (proofs/Sharing.antt). Assumes nothing.
use Rattle.plain_moves.proofs.Sharing.{cell_part, slot_part, lift_part}
use Rattle.plain_moves.proofs.Parts.has.Goals as goal

pub returns-then-k-lt40 : goal.returns-then-k-lt40
returns-then-k-lt40 c = cell_part c.args.self c.args.k c.if-k-lt40.true

pub returns-then-k-lt52 : goal.returns-then-k-lt52
returns-then-k-lt52 c =
    slot_part c.args.self c.args.k c.if-k-lt40.false c.if-k-lt52.true

pub returns : goal.returns
returns c = lift_part c.args.self c.args.k c.if-k-lt52.false
