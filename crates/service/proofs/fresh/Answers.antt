-- `service::fresh` meets its contract. Assumes nothing.
use Rattle.service.proofs.Hearing.{no_set}
use Rattle.wire.proofs.Parts.{from_on}
use Rattle.wire.specs.Kinds.{set_of}
use mathlib.Core.Path.{ap, ◌∙◌}
use Rattle.service.proofs.fresh.Goals as goal

pub returns-then-m-lt5 : goal.returns-then-m-lt5
returns-then-m-lt5 c = no_set c.args.m.now c.if-m-lt5.true

pub returns : goal.returns
returns c = c.set_of.ensures ∙ ap set_of (from_on c.args.m.now 5)
