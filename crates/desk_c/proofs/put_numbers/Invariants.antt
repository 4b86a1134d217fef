use Rattle.codec.proofs.Fours.{Writing}
use Rattle.desk_c.proofs.put_numbers.Given as goal

abbrev pub invariant-loop-place : goal.invariant-loop-place
invariant-loop-place l = Writing 42 l.initial.run l.numbers l.run l.place
