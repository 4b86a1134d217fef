use Rattle.station.proofs.Loops.{Searched}
use Rattle.station.proofs.sets.search.Given as goal

abbrev pub invariant-loop-i : goal.invariant-loop-i
invariant-loop-i l = Searched l.set l.n l.marks l.r l.apart l.seen l.bad l.touching l.overlap l.barred l.i
