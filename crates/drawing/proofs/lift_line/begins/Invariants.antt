use Rattle.drawing.proofs.Begun.{Alike}
use Rattle.drawing.proofs.lift_line.begins.Given as goal

abbrev pub invariant-loop-i : goal.invariant-loop-i
invariant-loop-i l = Alike l.text l.at l.word l.i
