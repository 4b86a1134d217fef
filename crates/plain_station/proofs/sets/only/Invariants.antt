use Rattle.station.proofs.Loops.{Copied}
use Rattle.plain_station.proofs.sets.only.Given as goal

abbrev pub invariant-loop-k : goal.invariant-loop-k
invariant-loop-k l = Copied l.set l.kept l.n l.k
