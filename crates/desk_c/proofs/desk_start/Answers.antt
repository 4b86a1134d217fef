-- `desk_c::desk_start` meets its contract: as every call. Assumes nothing.
use mathlib.Core.Path.{refl, ap}
use Rattle.answers.specs.declared.Answer.TheVariants.{Taken}
use Rattle.desk.specs.declared.Desk.{Desk}
use Rattle.desk.specs.declared.Reply.TheVariants.{Told}
use Rattle.desk.specs.Calls.{desk_refused}
use Rattle.desk_c.proofs.Rooms.{short, entered}
use native.Mathlib.Omega.{arith}
use Rattle.desk_c.proofs.desk_start.Goals as goal

pub returns-then-room-lt-DESK : goal.returns-then-room-lt-DESK
returns-then-room-lt-DESK c = short _ _ c.if-room-lt-DESK.true c.say.ensures

pub returns : goal.returns
returns c = entered _ _ (omega (arith, c.if-room-lt-DESK.false)) refl (ap (λ (d : Desk). desk_refused d (Told Taken)) c.start.ensures) c.keep.ensures
