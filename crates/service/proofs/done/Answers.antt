-- `service::done` meets its contract: the eight bytes of an answer. Assumes nothing.
use Rattle.answers.specs.declared.Answer.TheVariants.{Taken}
use Rattle.service.proofs.Replies.{eight_bytes, put_answer}
use mathlib.Core.Path.{refl}
use native.Mathlib.Omega.{arith}
use Rattle.service.proofs.done.Goals as goal

pub returns : goal.returns
returns c = put_answer Taken c.args.out.now _ {number = 0} {place = 255} {issue = 0} refl refl refl (c.copy.ensures.all (omega (arith, eight_bytes Taken))).1
