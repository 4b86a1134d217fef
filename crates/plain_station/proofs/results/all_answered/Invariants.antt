use Rattle.plain_station.proofs.Marks.{open'}
use Rattle.bits.proofs.Least.{Passed}
use Rattle.plain_station.proofs.results.all_answered.Given as goal

abbrev pub invariant-loop-i : goal.invariant-loop-i
invariant-loop-i l = Passed (open' l.marks) l.n l.i
