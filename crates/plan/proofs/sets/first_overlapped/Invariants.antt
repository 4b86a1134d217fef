use Rattle.bits.proofs.Least.{Passed}
use Rattle.plan.specs.Plans.{overlaps_that}
use Rattle.plan.proofs.sets.first_overlapped.Given as goal

abbrev pub invariant-loop-j : goal.invariant-loop-j
invariant-loop-j l = Passed (overlaps_that l.set l.i) l.i l.j
