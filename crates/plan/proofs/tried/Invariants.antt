use Rattle.std.proofs.Common.{get_or}
use Rattle.plan.proofs.Walking.{Trying}
use Rattle.plan.proofs.tried.Given as goal

abbrev pub invariant-loop-k : goal.invariant-loop-k
invariant-loop-k l = Trying l.bytes (get_or l.bytes 16 0) l.n l.initial.s l.s l.at l.k
