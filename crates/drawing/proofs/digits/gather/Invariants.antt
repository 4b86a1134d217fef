use Rattle.drawing.proofs.Sixteen.{Gathering}
use Rattle.drawing.proofs.digits.gather.Given as goal

abbrev pub invariant-loop-b : goal.invariant-loop-b
invariant-loop-b l = Gathering l.text l.bytes l.count l.b-index
