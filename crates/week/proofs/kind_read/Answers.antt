-- `week::kind_read` meets its contract: each refusal by its own test. Assumes nothing.
use borrow.Author.Tests.{lt-ltb, le-ltb}
use Rattle.week.specs.Weeks.{kind_read}
use Rattle.week.proofs.kind_read.Goals as goal

pub returns-then-m-lt4 : goal.returns-then-m-lt4
unfolding kind_read
returns-then-m-lt4 c = simp (lt-ltb _ _ c.if-m-lt4.true)

pub returns-then-n-lt2 : goal.returns-then-n-lt2
unfolding kind_read
returns-then-n-lt2 c = simp (le-ltb _ _ c.if-m-lt4.false, lt-ltb _ _ (rw c.word-n.ensures at c.if-n-lt2.true))

pub returns-then-n-gt43 : goal.returns-then-n-gt43
unfolding kind_read
returns-then-n-gt43 c = let e = c.word-n.ensures in
    simp (le-ltb _ _ c.if-m-lt4.false, le-ltb _ _ (rw e at c.if-n-lt2.false), lt-ltb _ _ (rw e at c.if-n-gt43.true))

pub returns-then-kind-gt5 : goal.returns-then-kind-gt5
unfolding kind_read
returns-then-kind-gt5 c = let e = c.word-n.ensures in
    simp (le-ltb _ _ c.if-m-lt4.false, le-ltb _ _ (rw e at c.if-n-lt2.false), le-ltb _ _ (rw e at c.if-n-gt43.false), lt-ltb _ _ (rw c.word-kind.ensures at c.if-kind-gt5.true))

pub returns : goal.returns
unfolding kind_read
returns c = let e = c.word-n.ensures in
    let k = c.word-kind.ensures in
    rw k (simp (le-ltb _ _ c.if-m-lt4.false, le-ltb _ _ (rw e at c.if-n-lt2.false), le-ltb _ _ (rw e at c.if-n-gt43.false), le-ltb _ _ (rw k at c.if-kind-gt5.false)))
