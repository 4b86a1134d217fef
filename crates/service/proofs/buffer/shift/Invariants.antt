use mathlib.Core.Path.{◌≡◌}
use lib.ListN.{length}
use Rattle.service.proofs.Shifting.{Shifted}
use Rattle.service.proofs.buffer.shift.Given as goal

abbrev pub invariant-loop-i : goal.invariant-loop-i
invariant-loop-i l = (length l.buf ≡ length l.initial.buf) × Shifted l.initial.buf l.from l.to l.i l.buf
