-- `engine::judging::judged` meets its contract: each refusal is the first part that fails. Assumes nothing.
use borrow.Author.Tests.{eq-eqb, ne_eqb}
use Rattle.engine.proofs.judging.judged.Goals as goal

pub returns-then-r-care : goal.returns-then-r-care
returns-then-r-care c = rw (ne_eqb _ _ c.if-r-care.true)

pub returns-then-early-even : goal.returns-then-early-even
returns-then-early-even c = rw (eq-eqb _ _ c.if-r-care.false, ← c.even-even.ensures, c.if-early-even.true)

pub returns-then-room-eq0 : goal.returns-then-room-eq0
returns-then-room-eq0 c = rw (eq-eqb _ _ c.if-r-care.false, ← c.even-even.ensures, c.if-early-even.false, eq-eqb _ _ c.if-room-eq0.true)

pub returns-then-r-room-ne0 : goal.returns-then-r-room-ne0
returns-then-r-room-ne0 c = rw (eq-eqb _ _ c.if-r-care.false, ← c.even-even.ensures, c.if-early-even.false, ne_eqb _ _ c.if-room-eq0.false, ne_eqb _ _ c.if-r-room-ne0.true)

pub returns-then-early-even-2 : goal.returns-then-early-even-2
returns-then-early-even-2 c = rw (eq-eqb _ _ c.if-r-care.false, ← c.even-even.ensures, c.if-early-even.false, ne_eqb _ _ c.if-room-eq0.false, eq-eqb _ _ c.if-r-room-ne0.false, c.if-early-even-2.true)

pub returns : goal.returns
returns c = rw (eq-eqb _ _ c.if-r-care.false, ← c.even-even.ensures, c.if-early-even.false, ne_eqb _ _ c.if-room-eq0.false, eq-eqb _ _ c.if-r-room-ne0.false, c.if-early-even-2.false)
