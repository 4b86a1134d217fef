use Rattle.desk_buffer.specs.DeskServing.{desk_serving}
use borrow.Author.Tests.{lt-ltb, le-ltb}
use mathlib.Core.Path.{refl}
use lib.ListN.{length}
use Rattle.desk_buffer.proofs.serve.Goals as goal

pub returns-then-sent-input : goal.returns-then-sent-input
unfolding desk_serving
returns-then-sent-input c = rw (lt-ltb (length c.args.sent.now) (length c.args.input.now) c.if-sent-input.true) (refl, refl, refl)

pub answer_all-requires : goal.answer_all-requires
answer_all-requires c = c.if-sent-input.false

pub returns : goal.returns
unfolding desk_serving
returns c = rw (le-ltb (length c.args.sent.now) (length c.args.input.now) c.if-sent-input.false) c.answer_all.ensures
