-- `week::brings_result` meets its contract: too few bytes, or what they say. Assumes nothing.
use borrow.Author.Tests.{lt-ltb, le-ltb}
use Rattle.week.specs.Private.{brings_result}
use Rattle.week.proofs.brings_result.Goals as goal

pub returns-then-m-lt8 : goal.returns-then-m-lt8
unfolding brings_result
returns-then-m-lt8 c = simp (lt-ltb _ _ c.if-m-lt8.true)

pub returns : goal.returns
unfolding brings_result
returns c = rw (c.word-size.ensures, c.word-kind.ensures) (simp (le-ltb _ _ c.if-m-lt8.false))
