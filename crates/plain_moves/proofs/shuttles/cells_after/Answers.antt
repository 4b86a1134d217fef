-- `plain_moves::shuttles::cells_after` meets its contract: the loop makes a row at a time (proofs/Finding.antt). Assumes nothing.
use mathlib.Core.Path.{refl}
use native.Mathlib.Omega.{arith}
use Rattle.plain_moves.specs.Private.{cells_after}
use Rattle.plain_moves.proofs.Finding.{cells_more, three_cells}
use Rattle.plain_moves.proofs.shuttles.cells_after.Goals as goal

pub loop-row-init : goal.loop-row-init
unfolding cells_after
loop-row-init c = (refl, (omega arith), (omega arith))

pub source-from-requires : goal.source-from-requires
source-from-requires c = ((omega arith), (omega arith))

pub row_from-made-requires : goal.row_from-made-requires
row_from-made-requires c = c.requires

pub loop-row-preserved : goal.loop-row-preserved
loop-row-preserved c =
    let a = c.args in
    let v = c.loop-row.invariant in
    (cells_more a.side a.mask a.toward a.cells v.1 v.0 c.source-from.ensures c.row_from-made.ensures, (omega arith), (omega arith))

pub returns : goal.returns
returns c =
    let a = c.args in
    let v = c.loop-row.invariant in
    three_cells a.side a.mask a.toward a.cells v.0 (omega arith)
