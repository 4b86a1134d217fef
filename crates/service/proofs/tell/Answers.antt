-- `service::tell` meets its contract. Assumes nothing.
use Rattle.service.proofs.Hearing.{told_image, told_answer}
use Rattle.service.proofs.Replies.{retold}
use Rattle.service.specs.Service.{answer_message, answer_bytes}
use Rattle.wire.specs.declared.What.{What}
use lib.ListN.{length}
use Prim.Native.Nat.{◌≤◌}
use mathlib.Core.Path.{ap, subst, ◌∙◌}
use Rattle.service.proofs.tell.Goals as goal

pub show-requires : goal.show-requires
show-requires c = subst (λ (w : What). length (answer_bytes w) ≤ length c.args.out.now) (told_image c.args.kind c.args.t c.number.ensures c.if-kind-number.true) c.requires

pub returns-then-kind-number : goal.returns-then-kind-number
returns-then-kind-number c = retold c.args.out.now (told_image c.args.kind c.args.t c.number.ensures c.if-kind-number.true) c.show.ensures

pub done-requires : goal.done-requires
done-requires c = subst (λ (w : What). length (answer_bytes w) ≤ length c.args.out.now) (told_answer c.args.kind c.args.t c.number.ensures c.if-kind-number.false ∙ ap answer_message c.in-Taken.is) c.requires

pub put-requires : goal.put-requires
put-requires c = subst (λ (w : What). length (answer_bytes w) ≤ length c.args.out.now) (told_answer c.args.kind c.args.t c.number.ensures c.if-kind-number.false) c.requires

pub returns-in-Taken : goal.returns-in-Taken
returns-in-Taken c = retold c.args.out.now (told_answer c.args.kind c.args.t c.number.ensures c.if-kind-number.false ∙ ap answer_message c.in-Taken.is) c.done.ensures

pub returns-in_default : goal.returns-in_default
returns-in_default c = retold c.args.out.now (told_answer c.args.kind c.args.t c.number.ensures c.if-kind-number.false) c.put.ensures
