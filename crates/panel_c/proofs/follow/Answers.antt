-- `panel_c::follow` meets its contract: the lift under a driver, or the verdict and the next record. Assumes nothing.
use Rattle.panel_c.proofs.Following.{hindered, written}
use mathlib.Core.Path.{refl}
use native.Mathlib.Omega.{arith}
use Rattle.rooms.proofs.Rooms.{as_writes}
use Rattle.panel_c.proofs.follow.Goals as goal

pub returns-then-f-area : goal.returns-then-f-area
returns-then-f-area c = hindered _ _ _ c.area-area.ensures c.if-f-area.true c.say.ensures

pub returns : goal.returns
returns c =
    written _ _ _
    c.area-area.ensures
    c.if-f-area.false
    c.verdict.ensures
    c.answer_for-a.ensures
    c.moved-moved.ensures
    c.image.ensures
    c.image_bytes-b.ensures
    (as_writes _ _ _ refl (omega arith) c.say-2.ensures c.tell.ensures)
