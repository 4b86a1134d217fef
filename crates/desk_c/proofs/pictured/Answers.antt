-- `desk_c::pictured` meets its contract: too few bytes, or those of the numbers alone. Assumes nothing.
use mathlib.Core.Path.{sym}
use lib.Seq.{length-take-le}
use Rattle.desk_c.proofs.Rooms.{few_lent, few_numbers, all_numbers}
use Rattle.desk_c.proofs.pictured.Goals as goal

pub returns-then-run-size : goal.returns-then-run-size
returns-then-run-size c = few_numbers _ _ _ _ _ c.lent-size.ensures c.if-run-size.true c.too_few.ensures

pub slice_bounds-padded-end : goal.slice_bounds-padded-end
slice_bounds-padded-end c = sym (length-take-le _ _ c.if-run-size.false)

pub padded-requires : goal.padded-requires
padded-requires c = rw (length-take-le _ _ c.if-run-size.false) (few_lent c.args.count c.lent-size.ensures)

pub returns : goal.returns
returns c = all_numbers _ _ _ _ _ c.lent-size.ensures c.if-run-size.false c.padded.ensures c.given.ensures c.image.ensures
