-- `service::finish` meets its contract. Assumes nothing.
use Rattle.service.proofs.Replies.{nothing_left, something_left}
use Rattle.service.proofs.finish.Goals as goal

pub returns-then-held-eq0 : goal.returns-then-held-eq0
returns-then-held-eq0 c = let a = c.args in nothing_left a.held.now a.out.now c.if-held-eq0.true

pub returns : goal.returns
returns c = let a = c.args in
    something_left a.held.now a.out.now c.if-held-eq0.false c.answer_message.ensures c.write_plain.ensures
