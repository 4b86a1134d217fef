-- `drawing_c::drawing_write_apart` meets its contract: what writing leaves, and what it says. Assumes nothing.
use mathlib.Core.Bool.{true}
use Rattle.drawing_c.proofs.Rooms.{written}
use Rattle.drawing_c.proofs.drawing_write_apart.Goals as goal

pub returns : goal.returns
returns c =
    written true c.args.apart
    c.args.text.now c.write.result
    c.write.ensures c.said.ensures
