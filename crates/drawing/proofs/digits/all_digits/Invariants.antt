use Rattle.bits.proofs.Least.{Passed}
use Rattle.drawing.proofs.Sixteen.{no_digit}
use Rattle.drawing.proofs.digits.all_digits.Given as goal

abbrev pub invariant-loop-j : goal.invariant-loop-j
invariant-loop-j l = Passed (no_digit l.held.bytes) l.held.count l.j
