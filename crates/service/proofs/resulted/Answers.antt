-- `service::resulted` meets its contract: on a fit station what is settled is what is promised. Assumes nothing.
use mathlib.Core.Path.{◌∙◌}
use Rattle.station.proofs.Settling.{settled_fit}
use Rattle.service.proofs.resulted.Goals as goal

pub returns-then-sure : goal.returns-then-sure
returns-then-sure c = let a = c.args in c.settled.ensures ∙ settled_fit a.s a.report (c.requires c.if-sure.true)

pub returns : goal.returns
returns c = c.resulted.ensures
