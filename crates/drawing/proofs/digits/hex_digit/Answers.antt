use borrow.Author.Tests.{lt-ltb, le-ltb}
use Rattle.drawing.proofs.digits.hex_digit.Goals as goal

pub returns-then-v-lt10 : goal.returns-then-v-lt10
returns-then-v-lt10 c = simp (lt-ltb _ _ c.if-v-lt10.true)

pub returns : goal.returns
returns c = simp (le-ltb _ _ c.if-v-lt10.false)
