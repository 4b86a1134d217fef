use Rattle.codec.proofs.Fours.{too_short, there_is}
use Rattle.codec.proofs.there.Goals as goal

pub returns-then-size-lt4 : goal.returns-then-size-lt4
returns-then-size-lt4 c = too_short _ _ c.if-size-lt4.true

pub returns : goal.returns
returns c = there_is _ _ c.if-size-lt4.false
