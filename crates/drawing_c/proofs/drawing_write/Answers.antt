-- `drawing_c::drawing_write` meets its contract: what writing leaves, and what it says. Assumes nothing.
use mathlib.Core.Bool.{false}
use Rattle.drawing_c.proofs.Rooms.{written}
use Rattle.drawing_c.proofs.drawing_write.Goals as goal

pub returns : goal.returns
returns c =
    written false c.args.image
    c.args.text.now c.write.result
    c.write.ensures c.said.ensures
