-- `service::unread` meets its contract. Assumes nothing.
use Rattle.service.proofs.unread.Goals as goal

pub returns : goal.returns
returns c = rw c.answer_message-answer.ensures
