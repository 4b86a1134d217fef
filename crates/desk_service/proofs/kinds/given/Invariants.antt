use Prim.Native.Nat.{◌-◌}
use Rattle.codec.proofs.Fours.{Reading}
use Rattle.desk_service.proofs.kinds.given.Given as goal

abbrev pub invariant-loop-place : goal.invariant-loop-place
invariant-loop-place l = Reading 31 l.b l.numbers l.place

abbrev pub decreases-loop-place : goal.decreases-loop-place
decreases-loop-place l = 31 - l.place
