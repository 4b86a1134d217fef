-- What the session's loop keeps: the rooms are as long as they were, and what is held is what one turn needs. Assumes nothing.
use Rattle.desk_program.specs.DeskTurns.{DeskGoes}
use lib.ListN.{length}
use mathlib.Core.Bool.{false}
use mathlib.Core.Path.{◌≡◌}
use Rattle.desk_program.proofs.session.Given as goal

abbrev pub invariant-loop : goal.invariant-loop
invariant-loop l = (length l.buf ≡ length l.initial.buf) × (length l.out ≡ length l.initial.out) × (length l.sent ≡ length l.initial.sent) × DeskGoes l.b l.buf × (l.b.stop ≡ false)
