-- `desk_c::lent` meets its contract: of more than so many none. Assumes nothing.
use Rattle.desk_c.proofs.Rooms.{none_lent, each_lent, lent_small}
use native.Mathlib.Omega.{arith}
use Rattle.desk_c.proofs.lent.Goals as goal

pub returns-then-most-count : goal.returns-then-most-count
returns-then-most-count c = none_lent _ _ _ c.if-most-count.true

pub overflow_mul-result : goal.overflow_mul-result
overflow_mul-result c = record { fits = lent_small _ _ c.requires (omega arith) }

pub returns : goal.returns
returns c = each_lent _ _ _ c.if-most-count.false
