use Rattle.plain.proofs.Standing.{Passed}
use Rattle.plain.proofs.places.gapless.Given as goal

abbrev pub invariant-loop-n : goal.invariant-loop-n
invariant-loop-n l = Passed l.mask l.n l.fine l.begun l.before
