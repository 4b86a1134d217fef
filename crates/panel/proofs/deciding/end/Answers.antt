-- `panel::deciding::end` meets its contract: each turn leaves the rest of the definition (proofs/Ends.antt). Assumes nothing.
use Rattle.panel.proofs.Ends.{end_starts, cell_small, left_enough, end_turns, end_ends}
use native.Mathlib.Omega.{arith}
use Rattle.panel.proofs.deciding.end.Goals as goal

pub loop-j-init : goal.loop-j-init
loop-j-init c = (end_starts _ _ _, (omega arith))

pub bounds-span-cell : goal.bounds-span-cell
bounds-span-cell c = cell_small _ _ c.from_end-cell.ensures (omega arith)

pub bounds-marked-cell : goal.bounds-marked-cell
bounds-marked-cell c = cell_small _ _ c.from_end-cell.ensures (omega arith)

pub overflow_sub-left : goal.overflow_sub-left
overflow_sub-left c = left_enough _ _

pub loop-j-preserved : goal.loop-j-preserved
loop-j-preserved c = (end_turns c.loop-j.invariant.0 (omega arith) c.from_end-cell.ensures, (omega arith))

pub returns : goal.returns
returns c = end_ends c.loop-j.invariant.0 (omega arith)
