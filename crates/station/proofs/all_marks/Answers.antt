-- `station::all_marks` meets its contract: a power of two up to 256. Assumes nothing.
use Rattle.std.proofs.Common.{arith}
use Rattle.bits.proofs.Operations.{shl_one}
use Rattle.station.proofs.Marks.{pow_small}
use Rattle.station.proofs.all_marks.Goals as goal

pub overflow_sub-result : goal.overflow_sub-result
overflow_sub-result c = rw (shl_one c.args.n (omega arith)) (pow_small _ c.requires).0

pub overflow_cast-result-2 : goal.overflow_cast-result-2
overflow_cast-result-2 c = rw (shl_one c.args.n (omega arith)) (let p = pow_small _ c.requires in record { fits = omega arith })

pub returns : goal.returns
returns c = rw (shl_one c.args.n (omega arith))
