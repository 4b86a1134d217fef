use mathlib.Core.Path.{◌≡◌}
use Prim.Native.Nat.{◌-◌, ◌≤◌}
use Rattle.plain_moves.specs.Private.{slots_after}
use Rattle.plain_moves.proofs.shuttles.slots_after.Given as goal

abbrev pub invariant-loop-row : goal.invariant-loop-row
invariant-loop-row l = (l.new ≡ slots_after l.side l.mask l.orientation l.toward l.slots (l.row - 1)) × (1 ≤ l.row) × (l.row ≤ 4)
