use Rattle.drawing.proofs.lift_line.drive_of.Goals as goal

pub returns-then-bit : goal.returns-then-bit
returns-then-bit c = simp (← c.bit.ensures, c.if-bit.true)

pub returns-then-bit-2 : goal.returns-then-bit-2
returns-then-bit-2 c = simp (← c.bit.ensures, c.if-bit.false, ← c.bit-2.ensures, c.if-bit-2.true)

pub returns : goal.returns
returns c = simp (← c.bit.ensures, c.if-bit.false, ← c.bit-2.ensures, c.if-bit-2.false)
