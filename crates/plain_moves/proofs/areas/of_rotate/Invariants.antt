use mathlib.Core.Path.{◌≡◌}
use Prim.Native.Nat.{◌≤◌}
use Rattle.plain_moves.proofs.Marking.{beside_lift}
use Rattle.plain_moves.proofs.areas.of_rotate.Given as goal

abbrev pub invariant-loop-beside : goal.invariant-loop-beside
invariant-loop-beside l = (l.cells ≡ beside_lift l.beside) × (l.beside ≤ 3)
