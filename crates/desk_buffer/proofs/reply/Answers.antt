use mathlib.Core.Path.{sym, ◌∙◌}
use lib.Seq.{length-take-le}
use Rattle.desk_buffer.proofs.Serving.{replied_none, answer_left, replied_some}
use Rattle.desk_buffer.proofs.reply.Goals as goal

pub returns-in-Err : goal.returns-in-Err
returns-in-Err c = replied_none c.args.d c.args.m.now c.args.out.now c.args.sent.now c.respond-r.ensures c.in-Err.is c.ended.ensures

pub slice_bounds-pass_on-end : goal.slice_bounds-pass_on-end
slice_bounds-pass_on-end c = let a = answer_left c.args.d c.args.m.now c.args.out.now c.args.sent.now c.respond-r.ensures c.in-Ok.is in a.0

pub slice_bounds-pass_on-end-in-Ok : goal.slice_bounds-pass_on-end-in-Ok
slice_bounds-pass_on-end-in-Ok c = sym (length-take-le _ _ (answer_left c.args.d c.args.m.now c.args.out.now c.args.sent.now c.respond-r.ensures c.in-Ok.is).0)

pub returns-in-Ok : goal.returns-in-Ok
returns-in-Ok c = replied_some c.args.d c.args.m.now c.args.out.now c.args.sent.now c.respond-r.ensures c.in-Ok.is c.pass_on-passed.ensures
