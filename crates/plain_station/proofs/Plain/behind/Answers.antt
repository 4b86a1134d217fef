-- `plain_station::Plain::behind` meets its contract: two differences, counted round the end. Assumes nothing.
use Rattle.plain_station.specs.Plain.{packed_of}
use Rattle.std.proofs.Common.{arith}
use Rattle.plain_station.proofs.Plain.behind.Goals as goal

pub returns : goal.returns
unfolding packed_of
returns c = let e = c.wrapping_sub_u16.ensures in let d = c.wrapping_sub_u16-2.ensures in omega arith
