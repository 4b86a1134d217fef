use Rattle.station.proofs.Loops.{Zero}
use Rattle.station.proofs.sets.rest_zero.Given as goal

abbrev pub invariant-loop-k : goal.invariant-loop-k
invariant-loop-k l = Zero l.set l.n l.k l.seen
