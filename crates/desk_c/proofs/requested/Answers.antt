-- `desk_c::requested` meets its contract: too few bytes, or those of the instructions alone. Assumes nothing.
use mathlib.Core.Path.{sym}
use lib.Seq.{length-take-le}
use Rattle.desk_c.proofs.Rooms.{few_instructions, all_instructions}
use Rattle.desk_c.proofs.requested.Goals as goal

pub returns-then-set-size : goal.returns-then-set-size
returns-then-set-size c = few_instructions _ _ _ c.lent-size.ensures c.if-set-size.true c.too_few.ensures

pub slice_bounds-set_of-end : goal.slice_bounds-set_of-end
slice_bounds-set_of-end c = sym (length-take-le _ _ c.if-set-size.false)

pub returns : goal.returns
returns c = all_instructions _ _ _ c.lent-size.ensures c.if-set-size.false c.set_of.ensures c.request.ensures
