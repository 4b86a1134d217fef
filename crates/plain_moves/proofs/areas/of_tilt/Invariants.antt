use mathlib.Core.Path.{◌≡◌}
use Prim.Native.Nat.{◌-◌, ◌≤◌, ◌<◌}
use Rattle.plain_moves.proofs.Marking.{tilt_slots}
use Rattle.plain_moves.proofs.areas.of_tilt.Given as goal

abbrev pub invariant-loop-other : goal.invariant-loop-other
invariant-loop-other l = (l.slots ≡ tilt_slots l.side l.row l.orientation (l.other - 1)) × (0 < l.other) × (l.other ≤ 4)
