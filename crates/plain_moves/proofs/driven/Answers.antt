-- `plain_moves::driven` meets its contract: each event is one case (proofs/Driving.antt). Assumes nothing.
use Rattle.plain_moves.proofs.Driving.{driven_as, begun_in, begun_out, ended_done, ended_not_done}
use Rattle.plain_moves.proofs.Floors.{sized}
use Rattle.plain_moves.proofs.driven.Goals as goal

pub returns-in-BeginIn : goal.returns-in-BeginIn
returns-in-BeginIn c = let f = c.args.f in let g = c.well_formed in
    driven_as f c.in-BeginIn.is (begun_in f (sized f g.0.1.1.0.1.0.1 g.0.1.1.1.0.1.0.1))

pub returns-in-BeginOut : goal.returns-in-BeginOut
returns-in-BeginOut c = let f = c.args.f in let g = c.well_formed in
    driven_as f c.in-BeginOut.is (begun_out f (sized f g.0.1.1.0.1.0.1 g.0.1.1.1.0.1.0.1))

pub returns-in-EndDone : goal.returns-in-EndDone
returns-in-EndDone c = let f = c.args.f in let g = c.well_formed in
    driven_as f c.in-EndDone.is (ended_done f (sized f g.0.1.1.0.1.0.1 g.0.1.1.1.0.1.0.1))

pub returns-in-EndNotDone : goal.returns-in-EndNotDone
returns-in-EndNotDone c = let f = c.args.f in let g = c.well_formed in
    driven_as f c.in-EndNotDone.is (ended_not_done f (sized f g.0.1.1.0.1.0.1 g.0.1.1.1.0.1.0.1))
