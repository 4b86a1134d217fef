-- `service::buffer::hold` meets its contract. Assumes nothing.
use native.Mathlib.Omega.{arith}
use Rattle.service.proofs.Holding.{none_held, some_held}
use Rattle.service.proofs.buffer.hold.Goals as goal

pub returns-then-to-from : goal.returns-then-to-from
returns-then-to-from c = none_held _ _ _ (omega arith)

pub shift-requires : goal.shift-requires
shift-requires c = (omega arith, omega arith)

pub returns : goal.returns
returns c = some_held _ _ _ _ _ c.min-to.ensures c.shift.ensures
