use Rattle.std.proofs.Common.{◌≡◌, ◌≤◌, false}
use Rattle.station.specs.Held.{lift_in}
use Rattle.station.proofs.sets.lift_in.Given as goal

abbrev pub invariant-loop-i : goal.invariant-loop-i
invariant-loop-i l = (lift_in l.set l.i ≡ false) × (l.i ≤ l.n)
