-- `journal_files::place` meets its contract. Assumes nothing.
use Rattle.std.proofs.Common.{arith, le-ltb, lt-ltb}
use Rattle.journal_files.proofs.place.Goals as goal

pub returns-then-n-lt9223372036854775808 : goal.returns-then-n-lt9223372036854775808
returns-then-n-lt9223372036854775808 c = rw (lt-ltb c.args.n 9223372036854775808 (omega arith))

pub returns : goal.returns
returns c = rw (le-ltb c.args.n 9223372036854775808 (omega arith))
