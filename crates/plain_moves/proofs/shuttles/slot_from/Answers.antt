-- `plain_moves::shuttles::slot_from` meets its contract: each return is one case of the definition (proofs/Finding.antt). Assumes nothing.
use Rattle.plain_moves.specs.Private.{slot_bits}
use Rattle.plain_moves.proofs.Finding.{no_slot}
use Rattle.plain_moves.proofs.shuttles.slot_from.Goals as goal

pub returns-in-None : goal.returns-in-None
returns-in-None c = let a = c.args in no_slot a.side a.orientation (slot_bits a.slots.now) c.in-None.is
