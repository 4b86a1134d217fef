use borrow.Author.Tests.{leb-true}
use Rattle.bits.proofs.Cases.{passed, failed}
use Rattle.codec.specs.Fours.{four_at}
use Rattle.codec.proofs.four_at.Goals as goal

pub returns-then-not-there : goal.returns-then-not-there
unfolding four_at
returns-then-not-there c = rw (failed c.there.ensures c.if-not-there.true-raw)

pub got-requires : goal.got-requires
got-requires c = leb-true _ _ (passed c.there.ensures c.if-not-there.false-raw)

pub returns : goal.returns
unfolding four_at
returns c = rw (passed c.there.ensures c.if-not-there.false-raw) c.got.ensures
