use Rattle.engine.proofs.Lifting.{bits_law}
use borrow.Author.Tests.{eq-eqb, ne_eqb}
use Rattle.engine.proofs.lifts.lift_bits.Goals as goal

pub returns-then-height-eq2 : goal.returns-then-height-eq2
returns-then-height-eq2 c = bits_law c.args.height c.args.car _ c.requires (simp (c.if-car.true, eq-eqb _ _ c.if-height-eq2.true))

pub returns-then-car : goal.returns-then-car
returns-then-car c = bits_law c.args.height c.args.car _ c.requires (simp (c.if-car.true, ne_eqb _ _ c.if-height-eq2.false))

pub returns : goal.returns
returns c = bits_law c.args.height c.args.car _ c.requires (simp c.if-car.false)
