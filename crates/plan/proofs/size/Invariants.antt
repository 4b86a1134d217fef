use Rattle.plan.proofs.Walking.{Sized}
use Rattle.plan.proofs.size.Given as goal

abbrev pub invariant-loop-k : goal.invariant-loop-k
invariant-loop-k l = Sized l.plan l.n l.at l._k
