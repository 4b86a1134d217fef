-- `plain_station::sets::instruction` meets its contract: its five bytes, or none past the eighth. Assumes nothing.
use Rattle.plain_station.proofs.Reading.{none_there, read_there}
use Rattle.std.proofs.Common.{arith}
use Rattle.plain_station.proofs.sets.instruction.Goals as goal

pub returns-then-i-ge8 : goal.returns-then-i-ge8
returns-then-i-ge8 c = none_there _ _ c.requires c.if-i-ge8.true

pub returns : goal.returns
returns c = read_there _ _ c.requires (omega arith) c.read_bytes.ensures
