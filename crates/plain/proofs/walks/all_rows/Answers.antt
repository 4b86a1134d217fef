-- `plain::walks::all_rows` meets its contract: the loop walks rows 2 and 3 (proofs/Walking.antt). Assumes nothing.
use native.Mathlib.Omega.{arith}
use Rattle.plain.specs.Plain.{plain_bits}
use Rattle.plain.proofs.Walking.{rows_start, rows_room, rows_turn, rows_end}
use Rattle.plain.proofs.walks.all_rows.Goals as goal

pub loop-k-init : goal.loop-k-init
loop-k-init c = rows_start (plain_bits c.args.f) c.row_1-w.ensures

pub noted-w-requires : goal.noted-w-requires
noted-w-requires c = rows_room c.loop-k.invariant

pub loop-k-preserved : goal.loop-k-preserved
loop-k-preserved c = rows_turn c.loop-k.invariant (omega arith) c.occupied.ensures c.noted-w.ensures

pub returns : goal.returns
returns c = rows_end c.loop-k.invariant (omega arith)
