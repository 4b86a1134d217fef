use mathlib.Core.Path.{◌∙◌}
use Rattle.drawing.proofs.Cells.{cell_bit, slot_bit, lift_bit_lem}
use Rattle.drawing.proofs.bit_in.Goals as goal

pub returns-then-k : goal.returns-then-k
returns-then-k c = let x = c.args in c.marked.ensures ∙ cell_bit x.sheet.now.apart x.sheet.now.g x.text.now x.sheet.now.lift x.k c.if-k.true

pub returns-then-k-lt-RAISED : goal.returns-then-k-lt-RAISED
returns-then-k-lt-RAISED c = let x = c.args in c.slot_in.ensures ∙ slot_bit x.sheet.now.apart x.sheet.now.g x.text.now x.sheet.now.lift x.k c.if-k.false c.if-k-lt-RAISED.true

pub returns : goal.returns
returns c = let x = c.args in c.lift_bit.ensures ∙ lift_bit_lem x.sheet.now.apart x.sheet.now.g x.text.now x.sheet.now.lift x.k c.if-k-lt-RAISED.false
