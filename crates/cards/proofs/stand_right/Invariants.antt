use mathlib.Core.Bool.{not}
use Rattle.bits.proofs.Least.{Passed}
use Rattle.cards.proofs.Seeking.{right_at}
use Rattle.cards.proofs.stand_right.Given as goal

abbrev pub invariant-loop-j : goal.invariant-loop-j
invariant-loop-j l = Passed (λ i. not (right_at l.r l.n i)) 42 l.j
