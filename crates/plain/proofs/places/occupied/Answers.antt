-- `plain::places::occupied` meets its contract. Assumes nothing.
use Rattle.plain.proofs.Standing.{cell_bit}
use Rattle.plain.proofs.places.occupied.Goals as goal

pub returns : goal.returns
returns c = cell_bit c.args.f c.args.cell c.requires
