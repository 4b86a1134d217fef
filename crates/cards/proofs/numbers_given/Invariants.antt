use Rattle.bits.specs.Bits.{bit}
use Rattle.cards.proofs.Giving.{Giving}
use Rattle.cards.proofs.numbers_given.Given as goal

abbrev pub invariant-loop-j : goal.invariant-loop-j
invariant-loop-j l = Giving (bit l.r) l.ns l.new l.t l.j
