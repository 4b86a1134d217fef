use Rattle.drawing.proofs.Sixteen.{Numbering}
use Rattle.drawing.proofs.digits.number_in.Given as goal

abbrev pub invariant-loop-k : goal.invariant-loop-k
invariant-loop-k l = Numbering l.first l.held.bytes l.k l.number
