-- `service::put` meets its contract. Assumes nothing.
use Rattle.service.proofs.Replies.{eight_bytes, put_answer}
use native.Mathlib.Omega.{arith}
use Rattle.service.proofs.put.Goals as goal

pub returns : goal.returns
returns c = put_answer c.args.answer c.args.out.now _ c.number-number.ensures c.place-place.ensures c.issue.ensures (rw c.to_le_bytes.ensures at (c.copy.ensures.all (omega (arith, eight_bytes c.args.answer))).1)
