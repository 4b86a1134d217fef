use Rattle.desk_service.specs.DeskService.{brief}
use Rattle.desk_service.proofs.Saying.{leave_long, leave_told}
use mathlib.Core.Path.{◌∙◌, ap}
use Rattle.desk_service.proofs.kinds.leaves.Goals as goal

pub returns-then-m-gt4 : goal.returns-then-m-gt4
returns-then-m-gt4 c = ap brief c.unread.ensures ∙ leave_long c.args.d c.args.m.now c.if-m-gt4.true

pub returns : goal.returns
returns c = rw (c.leaving_told-told.ensures, c.leaving.ensures) (leave_told c.args.d c.args.m.now c.if-m-gt4.false)
