use Rattle.bits.proofs.Least.{Passed}
use Rattle.plain_moves.proofs.Sharing.{in_both}
use Rattle.plain_moves.proofs.Parts.meets.Given as goal

abbrev pub invariant-loop-k : goal.invariant-loop-k
invariant-loop-k l = Passed (in_both l.self l.q) 53 l.k
