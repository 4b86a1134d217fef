use mathlib.Core.Path.{◌≡◌}
use Prim.Native.Nat.{◌-◌}
use lib.ListN.{length}
use Rattle.station.specs.Station.{fit}
use Rattle.floor.specs.Sound.{total, cars_in}
use Rattle.week.proofs.Counting.{Midway}
use Rattle.week.proofs.count_all.Given as goal

abbrev pub invariant-loop-counts : goal.invariant-loop-counts
invariant-loop-counts l = Midway l.input l.initial.counts l.initial.s l.counts l.s l.at × (l.known ≡ fit l.s) × (l.cars ≡ cars_in (total l.s.bits))

abbrev pub decreases-loop-counts : goal.decreases-loop-counts
decreases-loop-counts l = length l.input - l.at
