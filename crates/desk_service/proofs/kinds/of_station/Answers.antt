use Rattle.desk_service.proofs.Saying.{request_refused, request_taken, said_refused, said_taken}
use Rattle.desk_service.specs.DeskService.{desk_called, brief}
use mathlib.Core.Path.{◌∙◌, ap, sym}
use Rattle.desk_service.proofs.kinds.of_station.Goals as goal

pub returns-in-Ok : goal.returns-in-Ok
returns-in-Ok c = ap brief (c.called.ensures ∙ ap desk_called c.request.ensures) ∙ request_taken c.args.d c.args.m.now (sym c.kind_at.ensures ∙ c.if-kind_at-eq1.true) c.request_in.ensures c.in-Ok.is

pub returns-in-Err : goal.returns-in-Err
returns-in-Err c = ap brief c.unread.ensures ∙ request_refused c.args.d c.args.m.now (sym c.kind_at.ensures ∙ c.if-kind_at-eq1.true) c.request_in.ensures c.in-Err.is

pub returns-in-Ok-saying : goal.returns-in-Ok-saying
returns-in-Ok-saying c = ap brief c.said.ensures ∙ said_taken c.args.d c.args.m.now (rw c.kind_at.ensures at c.if-kind_at-eq1.false) c.saying.ensures c.in-Ok-saying.is

pub returns-in-Err-saying : goal.returns-in-Err-saying
returns-in-Err-saying c = ap brief c.unread-in-Err-saying.ensures ∙ said_refused c.args.d c.args.m.now (rw c.kind_at.ensures at c.if-kind_at-eq1.false) c.saying.ensures c.in-Err-saying.is
