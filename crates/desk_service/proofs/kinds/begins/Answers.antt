use Rattle.desk_service.proofs.Saying.{begin_short, begin_zero, begin_card}
use Rattle.desk_service.specs.DeskService.{desk_called, brief}
use mathlib.Core.Path.{◌∙◌, ap}
use Rattle.desk_service.proofs.kinds.begins.Goals as goal

pub returns-then-m-ne8 : goal.returns-then-m-ne8
returns-then-m-ne8 c = ap brief c.unread.ensures ∙ begin_short c.args.d c.args.m.now c.if-m-ne8.true

pub returns-then-card-eq0 : goal.returns-then-card-eq0
returns-then-card-eq0 c = ap brief c.unread-then-card-eq0.ensures ∙ begin_zero c.args.d c.args.m.now c.if-m-ne8.false c.four_at-card.ensures c.if-card-eq0.true

pub returns : goal.returns
returns c = ap brief (c.called.ensures ∙ ap desk_called c.event.ensures) ∙ begin_card c.args.d c.args.m.now c.if-m-ne8.false c.four_at-card.ensures c.if-card-eq0.false
