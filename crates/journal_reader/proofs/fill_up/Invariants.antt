use Rattle.std.proofs.Common.{◌≡◌, ◌-◌, ◌≤◌, length}
use Rattle.streams.specs.Input.{FrontKept}
use Rattle.journal_reader.proofs.fill_up.Given as goal

abbrev pub invariant-loop-further : goal.invariant-loop-further
invariant-loop-further l = (length l.buf ≡ length l.initial.buf) × (l.have ≤ l.end) × (l.end ≤ length l.initial.buf) × FrontKept l.initial.buf l.have l.buf

abbrev pub decreases-loop-further : goal.decreases-loop-further
decreases-loop-further l = length l.buf - l.end
