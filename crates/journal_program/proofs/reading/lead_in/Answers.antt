-- `journal_program::reading::lead_in` meets its contract. Assumes nothing.
use Rattle.std.proofs.Common.{eq-eqb, ne_eqb}
use Rattle.journal_program.proofs.reading.lead_in.Goals as goal

pub returns-then-append-eq5 : goal.returns-then-append-eq5
returns-then-append-eq5 c = rw (eq-eqb _ _ c.if-append-eq5.true)

pub returns : goal.returns
returns c = rw (ne_eqb _ _ c.if-append-eq5.false)
