-- `service::buffer::turn` meets its contract. Assumes nothing.
use mathlib.Core.Path.{sym}
use native.Mathlib.Omega.{arith}
use lib.Seq.{length-take-le}
use Rattle.service.proofs.Turning.{one_turn}
use Rattle.service.proofs.buffer.turn.Goals as goal

pub slice_bounds-serve-end-2 : goal.slice_bounds-serve-end-2
slice_bounds-serve-end-2 c = sym (length-take-le _ _ (omega arith))

pub returns : goal.returns
returns c =
    one_turn _ _ _ _ _ _ _ _ _ c.min-end.ensures
    c.serve-w.ensures c.hold-have.ensures
