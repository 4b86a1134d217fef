-- `plain::tilts::all_lowered` meets its contract. Assumes nothing.
use Rattle.floor.specs.Floor.{slot, lowered}
use Rattle.plain.specs.Plain.{plain_bits}
use Rattle.plain.proofs.Asking.{three_set}
use Rattle.plain.proofs.tilts.all_lowered.Goals as goal

pub returns : goal.returns
returns c = let a = c.args in
    three_set (slot a.side lowered 1) (slot a.side lowered 2) (slot a.side lowered 3) (plain_bits a.f)
    c.shuttle.ensures c.shuttle-2.ensures c.shuttle-3.ensures
