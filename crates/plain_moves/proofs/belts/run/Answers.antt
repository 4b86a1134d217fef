-- `plain_moves::belts::run` meets its contract: the cells that are made are those of the next record (proofs/Moving.antt). Assumes nothing.
use Rattle.plain_moves.proofs.Floors.{sized}
use Rattle.plain_moves.proofs.Moving.{belts_run}
use Rattle.plain_moves.proofs.belts.run.Goals as goal

pub returns : goal.returns
returns c = let a = c.args in let g = c.well_formed in
    belts_run a.f (sized a.f g.0.1.1.0.1.0.1 g.0.1.1.1.0.1.0.1) a.row a.mask a.toward a.size
    c.requires c.shifted.ensures
