-- `plain::shuttles::all_there` meets its contract. Assumes nothing.
use Rattle.floor.specs.Floor.{slot}
use Rattle.plain.specs.Plain.{plain_bits}
use Rattle.plain.proofs.Asking.{all_rows}
use Rattle.plain.proofs.shuttles.all_there.Goals as goal

pub returns : goal.returns
returns c = let a = c.args in
    all_rows a.mask (slot a.side a.orientation) (plain_bits a.f) c.names.ensures
    c.shuttle.ensures c.names-2.ensures
    c.shuttle-2.ensures
    c.names-3.ensures c.shuttle-3.ensures
