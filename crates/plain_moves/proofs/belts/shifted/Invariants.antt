use Prim.Native.Nat.{◌≤◌}
use Rattle.plain.proofs.Listing.{Filling}
use Rattle.plain_moves.specs.Private.{cell_bits, belt_after}
use Rattle.plain_moves.proofs.belts.shifted.Given as goal

abbrev pub invariant-loop-cell : goal.invariant-loop-cell
invariant-loop-cell l = Filling (belt_after l.row l.mask l.toward l.size (cell_bits l.old)) 40 l.new l.cell × (l.cell ≤ 40)
