-- `journal_program::older::ended` meets its contract. Assumes nothing.
use Rattle.std.proofs.Common.{arith}
use Rattle.journal_program.proofs.older.ended.Goals as goal

pub read_all-requires : goal.read_all-requires
read_all-requires c = (omega arith, omega arith)
