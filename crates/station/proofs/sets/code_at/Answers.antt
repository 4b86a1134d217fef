-- `station::sets::code_at` meets its contract: its five bytes, or zeros past the end. Assumes nothing.
use Rattle.std.proofs.Common.{sym}
use Rattle.station.proofs.Loops.{past_eighth}
use Rattle.station.proofs.Padding.{five_at}
use Rattle.station.proofs.sets.code_at.Goals as goal

pub returns-then-i-ge8 : goal.returns-then-i-ge8
returns-then-i-ge8 c = past_eighth _ _ c.told-set c.if-i-ge8.true

pub returns : goal.returns
returns c = sym (five_at _ _)
