use Rattle.codec.proofs.Fours.{Reading}
use Rattle.report_c.proofs.load.Given as goal

abbrev pub invariant-loop-place : goal.invariant-loop-place
invariant-loop-place l = Reading 52 l.room l.counts l.place
