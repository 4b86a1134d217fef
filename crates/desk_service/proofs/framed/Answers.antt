use borrow.Author.Tests.{lt-ltb, le-ltb}
use Rattle.desk_service.proofs.framed.Goals as goal

pub returns-then-s-lt2 : goal.returns-then-s-lt2
returns-then-s-lt2 c = simp (lt-ltb _ _ c.if-s-lt2.true)

pub returns-then-n-lt2 : goal.returns-then-n-lt2
returns-then-n-lt2 c = simp (le-ltb _ _ c.if-s-lt2.false, lt-ltb _ _ (rw c.length_at-n.ensures at c.if-n-lt2.true))

pub returns-then-most-n : goal.returns-then-most-n
returns-then-most-n c = let e = c.length_at-n.ensures in
    simp (le-ltb _ _ c.if-s-lt2.false, le-ltb _ _ (rw e at c.if-n-lt2.false), lt-ltb _ _ (rw e at c.if-most-n.true))

pub returns-then-s-n : goal.returns-then-s-n
returns-then-s-n c = let e = c.length_at-n.ensures in
    simp (le-ltb _ _ c.if-s-lt2.false, le-ltb _ _ (rw e at c.if-n-lt2.false), le-ltb _ _ (rw e at c.if-most-n.false), lt-ltb _ _ (rw e at c.if-s-n.true))

pub returns : goal.returns
returns c = let e = c.length_at-n.ensures in
    rw e (simp (le-ltb _ _ c.if-s-lt2.false, le-ltb _ _ (rw e at c.if-n-lt2.false), le-ltb _ _ (rw e at c.if-most-n.false), le-ltb _ _ (rw e at c.if-s-n.false)))
