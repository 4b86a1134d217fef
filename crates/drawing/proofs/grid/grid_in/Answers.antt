use mathlib.Core.Path.{ap, ◌∙◌}
use Rattle.drawing.specs.Private.{mark_in}
use Rattle.drawing.proofs.Tables.{rows_start, row_starts, row_turns, row_ends, rows_end}
use Rattle.drawing.proofs.grid.grid_in.Goals as goal

pub loop-i-init : goal.loop-i-init
loop-i-init c = rows_start

pub loop-j-init : goal.loop-j-init
loop-j-init c = row_starts c.loop-i.invariant c.loop-i-test.true

pub loop-j-preserved : goal.loop-j-preserved
loop-j-preserved c =
    row_turns c.loop-j.invariant c.loop-j-test.true
    (c.mark_in.ensures ∙ ap (mark_in c.args.text.now) c.cell.ensures)

pub loop-i-preserved : goal.loop-i-preserved
loop-i-preserved c = row_ends c.loop-j.invariant c.loop-j-test.false

pub returns : goal.returns
returns c = rows_end c.loop-i.invariant c.loop-i-test.false
