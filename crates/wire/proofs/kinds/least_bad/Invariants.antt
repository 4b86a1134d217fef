use Rattle.wire.specs.Reads.{bad_in}
use Rattle.bits.proofs.Least.{Passed}
use lib.ListN.{drop}
use Rattle.wire.proofs.kinds.least_bad.Given as goal

abbrev pub invariant-loop-i : goal.invariant-loop-i
invariant-loop-i l = Passed (bad_in (drop 5 l.m)) l.n l.i
