use mathlib.Core.Path.{◌≡◌}
use Prim.Native.Nat.{◌-◌, ◌≤◌, ◌<◌}
use Rattle.plain_moves.proofs.Marking.{shuttle_cells, shuttle_slots}
use Rattle.plain_moves.proofs.areas.of_shuttles.Given as goal

abbrev pub invariant-loop-row : goal.invariant-loop-row
invariant-loop-row l = (l.cells ≡ shuttle_cells l.side l.mask l.orientation l.toward (l.row - 1))
    × (l.slots ≡ shuttle_slots l.side l.mask l.orientation l.toward (l.row - 1)) × (0 < l.row) × (l.row ≤ 4)
