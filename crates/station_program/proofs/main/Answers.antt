-- `station_program::main` meets its contract: the buffer has 64 KiB and more, and the room is enough for all answers to these. Assumes nothing.
use Rattle.std.proofs.Common.{arith}
use Rattle.station_program.proofs.main.Goals as goal

pub begin-requires : goal.begin-requires
begin-requires c =
    let t = c.tables-t.ensures in
    (omega arith, omega arith, t, λ k. (c.in-Ok.ensures k).makes (t, omega arith) k)
