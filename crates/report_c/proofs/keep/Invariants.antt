use Rattle.codec.proofs.Fours.{Writing}
use Rattle.report_c.proofs.keep.Given as goal

abbrev pub invariant-loop-place : goal.invariant-loop-place
invariant-loop-place l = Writing 52 l.initial.room l.counts l.room l.place
