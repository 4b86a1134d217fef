use mathlib.Core.Path.{◌≡◌}
use Prim.Native.Nat.{◌-◌, ◌≤◌}
use Rattle.plain_moves.specs.Private.{cells_after}
use Rattle.plain_moves.proofs.shuttles.cells_after.Given as goal

abbrev pub invariant-loop-row : goal.invariant-loop-row
invariant-loop-row l = (l.new ≡ cells_after l.side l.mask l.toward l.cells (l.row - 1)) × (1 ≤ l.row) × (l.row ≤ 4)
