-- `service::answered` meets its contract: the reply by the turn and the set that it brings. Assumes nothing.
use Rattle.service.proofs.Hearing.{reply_by}
use Rattle.service.proofs.answered.Goals as goal

pub returns : goal.returns
returns c = reply_by c.args.known c.args.s c.args.m.now c.heard-t.ensures c.kind_at.ensures c.told-answer.ensures c.left-station.ensures
