-- `journal_program::reading::read_on` meets its contract: what was read so far stands in the buffer. Assumes nothing.
use Rattle.std.proofs.Common.{arith, rules}
use Rattle.journal_program.proofs.reading.read_on.Goals as goal

pub loop-init : goal.loop-init
loop-init c = (search rules, search rules, c.requires.1)

pub one_append-requires : goal.one_append-requires
one_append-requires c = ((c.requires.0.0, omega (arith, c.requires.0.1, c.loop.invariant.1)), c.loop.invariant.2.1)

pub loop-preserved : goal.loop-preserved
loop-preserved c = (search rules, search rules, c.in_ok-q.ensures)
