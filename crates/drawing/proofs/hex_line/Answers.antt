use mathlib.Core.Path.{refl, ◌∙◌}
use native.Mathlib.Omega.{arith}
use Rattle.drawing.proofs.Sixteen.{line_is}
use Rattle.drawing.proofs.Tables.{fill_starts, fills, array_ends}
use Rattle.drawing.proofs.hex_line.Goals as goal

pub loop-t-init : goal.loop-t-init
loop-t-init c = fill_starts _ _ _

pub loop-t-preserved : goal.loop-t-preserved
loop-t-preserved c = fills 0 c.loop-t.invariant c.loop-t-test.true (omega arith) c.line_byte.ensures

pub returns : goal.returns
returns c = array_ends c.loop-t.invariant c.loop-t-test.false refl ∙ line_is c.args.image
