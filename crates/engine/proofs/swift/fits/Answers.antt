-- `engine::swift::fits` meets its contract. Assumes nothing.
use borrow.Author.Tests.{eq-eqb, ne_eqb}
use Rattle.engine.proofs.swift.fits.Goals as goal

pub returns-then-r-a : goal.returns-then-r-a
returns-then-r-a c = rw (ne_eqb _ _ c.if-r-a.true)

pub returns-then-r-room-ne0 : goal.returns-then-r-room-ne0
returns-then-r-room-ne0 c = rw (eq-eqb _ _ c.if-r-a.false, ne_eqb _ _ (rw c.within.ensures at c.if-r-room-ne0.true))

pub returns : goal.returns
returns c = rw (c.even.ensures, eq-eqb _ _ c.if-r-a.false, eq-eqb _ _ (rw c.within.ensures at c.if-r-room-ne0.false))
