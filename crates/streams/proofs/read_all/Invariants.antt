-- What is read lies within the buffer, which keeps its length. Assumes nothing.
use Rattle.std.proofs.Common.{◌≤◌, ◌-◌, length}
use Rattle.streams.proofs.read_all.Given as goal

abbrev pub invariant-loop-end : goal.invariant-loop-end
invariant-loop-end g l = l.have ≤ length l.buf

abbrev pub decreases-loop-end : goal.decreases-loop-end
decreases-loop-end g l = length l.buf - l.have
