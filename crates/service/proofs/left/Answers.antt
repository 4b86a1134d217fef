-- `service::left` meets its contract. Assumes nothing.
use Rattle.service.proofs.Hearing.{whichever_set}
use Rattle.station.specs.Turns.{after_turn}
use Rattle.station.specs.declared.Outcome.{Outcome}
use mathlib.Core.Path.{ap, ◌∙◌}
use Rattle.service.proofs.left.Goals as goal

pub returns-then-s-t : goal.returns-then-s-t
returns-then-s-t c = ap (λ (o : Outcome). o.station) (c.after.ensures ∙ ap (after_turn c.args.s c.args.t) c.fresh.ensures)

pub returns : goal.returns
returns c = ap (λ (o : Outcome). o.station) (c.after-2.ensures ∙ whichever_set c.args.s c.args.t _ _ c.if-s-t.false)
