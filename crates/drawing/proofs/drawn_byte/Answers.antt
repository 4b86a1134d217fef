use mathlib.Core.Path.{◌∙◌}
use Rattle.bits.specs.Bits.{bit}
use Rattle.drawing.proofs.Cells.{upper_at_lem, lift_at}
use Rattle.drawing.proofs.drawn_byte.Goals as goal

pub returns-then-t-lt-LIFT_LINE : goal.returns-then-t-lt-LIFT_LINE
returns-then-t-lt-LIFT_LINE c = let x = c.args in c.upper_byte.ensures ∙ upper_at_lem x.sheet.now.apart x.sheet.now.g (bit x.image) x.sheet.now.lift x.t c.if-t-lt-LIFT_LINE.true

pub returns : goal.returns
returns c = let x = c.args in c.last_byte.ensures ∙ lift_at x.sheet.now.apart x.sheet.now.g (bit x.image) x.sheet.now.lift x.t c.if-t-lt-LIFT_LINE.false
