use Rattle.totals.specs.Private.{count_mark}
use Rattle.bits.proofs.Cases.{both}
use lib.Dec.{leb}
use native.Mathlib.Omega.{arith}
use borrow.Author.Tests.{leb-true}
use Rattle.totals.proofs.marked.Goals as goal

pub overflow_sub-result : goal.overflow_sub-result
overflow_sub-result c = omega (
  arith,
  leb-true c.args.a c.args.x (both (leb c.args.a c.args.x) _
      c.if-a-x.true).0,
)

pub returns-then-a-x : goal.returns-then-a-x
unfolding count_mark
returns-then-a-x c = rw c.if-a-x.true

pub returns : goal.returns
unfolding count_mark
returns c = rw c.if-a-x.false
