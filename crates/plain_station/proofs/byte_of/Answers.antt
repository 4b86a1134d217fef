-- `plain_station::byte_of` meets its contract: the byte is built from its top mark down. Assumes nothing.
use Rattle.plain_station.proofs.Marks.{gather_starts, gather_fits, gathers, gather_ends}
use Rattle.std.proofs.Common.{refl, arith}
use Rattle.plain_station.proofs.byte_of.Goals as goal

pub loop-i-init : goal.loop-i-init
loop-i-init c = gather_starts _

pub overflow_mul-byte : goal.overflow_mul-byte
overflow_mul-byte c = let g = gather_fits _ c.loop-i.invariant c.loop-i-test.true refl in record { fits = omega arith }

pub overflow_add-byte : goal.overflow_add-byte
overflow_add-byte c = record { fits = gather_fits _ c.loop-i.invariant c.loop-i-test.true refl }

pub loop-i-preserved : goal.loop-i-preserved
loop-i-preserved c = gathers _ c.loop-i.invariant c.loop-i-test.true refl

pub returns : goal.returns
returns c = gather_ends c.loop-i.invariant c.loop-i-test.false
