use Rattle.desk_service.specs.DeskService.{brief}
use Rattle.desk_service.proofs.Saying.{seek_short, seek_told}
use mathlib.Core.Path.{◌∙◌, ap}
use Rattle.desk_service.proofs.kinds.seeks.Goals as goal

pub returns-then-m-ne8 : goal.returns-then-m-ne8
returns-then-m-ne8 c = ap brief c.unread.ensures ∙ seek_short c.args.d c.args.m.now c.if-m-ne8.true

pub returns : goal.returns
returns c = rw (c.where_told-told.ensures, c.whereabouts.ensures) (seek_told c.args.d c.args.m.now c.if-m-ne8.false c.four_at-card.ensures)
