use lib.ListN.{length}
use Rattle.bits.proofs.Least.{Passed}
use Rattle.cards.specs.Private.{repeats}
use Rattle.cards.proofs.one_repeats.Given as goal

abbrev pub invariant-loop-j : goal.invariant-loop-j
invariant-loop-j l = Passed (repeats l.ns) (length l.ns) l.j
