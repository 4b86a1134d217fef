use Rattle.codec.proofs.Fours.{Reading}
use Rattle.desk_c.proofs.numbers_in.Given as goal

abbrev pub invariant-loop-place : goal.invariant-loop-place
invariant-loop-place l = Reading 42 l.run l.numbers l.place
