use mathlib.Core.Path.{sym, ◌∙◌}
use Rattle.desk_buffer.proofs.Serving.{wrong_none, wrong_some}
use Rattle.desk_buffer.proofs.refuse.Goals as goal

pub returns-in-Ok : goal.returns-in-Ok
returns-in-Ok c = wrong_some c.args.d c.args.m.now c.args.out.now c.requires c.respond.ensures c.in-Ok.is c.ended.ensures

pub returns-in-Err : goal.returns-in-Err
returns-in-Err c = wrong_none c.args.d c.args.m.now c.args.out.now c.requires c.respond.ensures c.in-Err.is c.ended-in-Err.ensures
