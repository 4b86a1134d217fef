use Rattle.codec.proofs.Fours.{Reading}
use Rattle.desk_c.proofs.given.Given as goal

abbrev pub invariant-loop-place : goal.invariant-loop-place
invariant-loop-place l = Reading 31 l.b l.numbers l.place
