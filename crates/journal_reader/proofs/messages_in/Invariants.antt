use Rattle.std.proofs.Common.{◌+◌, ◌≤◌, length}
use Rattle.journal_reader.proofs.messages_in.Given as goal

abbrev pub invariant-loop-rest : goal.invariant-loop-rest
invariant-loop-rest l = l.n + length l.rest ≤ length l.m

abbrev pub decreases-loop-rest : goal.decreases-loop-rest
decreases-loop-rest l = length l.rest
