use mathlib.Core.Path.{◌≡◌}
use Prim.Native.Nat.{◌-◌}
use lib.ListN.{length}
use Rattle.station.specs.Station.{fit}
use Rattle.service.proofs.Turns.{Midway}
use Rattle.service.proofs.answer_all.Given as goal

abbrev pub invariant-loop-out : goal.invariant-loop-out
invariant-loop-out l = Midway l.input l.initial.out l.initial.s l.out l.s l.at l.made × (l.known ≡ fit l.s)

abbrev pub decreases-loop-out : goal.decreases-loop-out
decreases-loop-out l = length l.input - l.at
