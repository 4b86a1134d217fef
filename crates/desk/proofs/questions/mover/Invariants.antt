use Rattle.bits.proofs.Least.{Passed}
use Rattle.desk.proofs.Asking.{moves_at}
use Rattle.desk.proofs.questions.mover.Given as goal

abbrev pub invariant-loop-i : goal.invariant-loop-i
invariant-loop-i l = Passed (moves_at l.s.answered l.s.set l.k) l.s.count l.i
