use Rattle.bits.proofs.Least.{Passed}
use Rattle.drawing.specs.Reading.{is_mark}
use Rattle.drawing.proofs.Standing.{fails}
use Rattle.drawing.proofs.marks_stand.Given as goal

abbrev pub invariant-loop-i : goal.invariant-loop-i
invariant-loop-i l = Passed (fails (is_mark l.apart) l.text l.at l.n) l.n l.i
