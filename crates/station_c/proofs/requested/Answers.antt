-- `station_c::requested` meets its contract: the bytes past the instructions are not looked at. Assumes nothing.
use mathlib.Core.Path.{sym, ◌∙◌}
use lib.Seq.{length-take-le}
use Rattle.rooms.proofs.Padding.{asked_few, asked_enough}
use Rattle.station_c.proofs.requested.Goals as goal

pub returns-then-set-size : goal.returns-then-set-size
returns-then-set-size c = asked_few _ _ _ _ c.bytes_asked-size.ensures c.if-set-size.true

pub slice_bounds-set_of-end : goal.slice_bounds-set_of-end
slice_bounds-set_of-end c = sym (length-take-le _ _ c.if-set-size.false)

pub returns : goal.returns
returns c = c.request.ensures ∙ asked_enough _ _ _ _ c.bytes_asked-size.ensures c.if-set-size.false c.set_of-five_each.ensures
