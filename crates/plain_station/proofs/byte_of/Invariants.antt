use Rattle.plain_station.proofs.Marks.{Gathered}
use Rattle.plain_station.proofs.byte_of.Given as goal

abbrev pub invariant-loop-i : goal.invariant-loop-i
invariant-loop-i l = Gathered l.marks l.i l.byte
