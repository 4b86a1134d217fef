-- `service::told` meets its contract. Assumes nothing.
use Rattle.service.proofs.Hearing.{told_image, told_answer}
use mathlib.Core.Path.{sym, ◌∙◌}
use Rattle.service.proofs.told.Goals as goal

pub returns-then-kind-number : goal.returns-then-kind-number
returns-then-kind-number c = sym (told_image c.args.kind c.args.t c.number.ensures c.if-kind-number.true)

pub returns : goal.returns
returns c = c.answer_message.ensures ∙ sym (told_answer c.args.kind c.args.t c.number.ensures c.if-kind-number.false)
