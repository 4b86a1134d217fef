use mathlib.Core.Bool.{false}
use Rattle.engine.proofs.Lifting.{height_below, lift_laid}
use Rattle.bits.specs.Places.{places}
use borrow.Author.Tests.{eq-eqb, ne_eqb}
use native.Mathlib.Omega.{arith}
use mathlib.Core.Path.{sym, ◌∙◌}
use borrow.Author.Rules.{rules}
use Rattle.engine.proofs.lifts.lift_next.Goals as goal

pub lift_bits-requires : goal.lift_bits-requires
lift_bits-requires c = height_below c.args.height c.requires

pub returns-then-height-eq2 : goal.returns-then-height-eq2
unfolding places
returns-then-height-eq2 c = let a = c.args in
    let high = eq-eqb _ _ c.if-height-eq2.true in
    c.laid.ensures
    ∙ lift_laid a.r a.height _ c.lift_bits.result c.bit.result c.requires (omega arith) (search rules) c.lift_bits.ensures
    (simp high) (c.bit.ensures ∙ simp high)

pub lift_bits-requires-then-height_is : goal.lift_bits-requires-then-height_is
lift_bits-requires-then-height_is c = height_below c.args.height c.requires

pub returns-then-height_is : goal.returns-then-height_is
unfolding places
returns-then-height_is c = let a = c.args in
    let high = ne_eqb _ _ c.if-height-eq2.false in
    let low = sym c.height_is.ensures ∙ c.if-height_is.true in
    c.laid-then-height_is.ensures
    ∙ lift_laid a.r a.height _ c.lift_bits-then-height_is.result c.all.result c.requires (omega arith) (search rules) c.lift_bits-then-height_is.ensures
    (simp (high, low)) (c.all.ensures ∙ simp (high, low))

pub lift_bits-requires-2 : goal.lift_bits-requires-2
lift_bits-requires-2 c = height_below c.args.height c.requires

pub returns : goal.returns
unfolding places
returns c = let a = c.args in
    let high = ne_eqb _ _ c.if-height-eq2.false in
    let low = sym c.height_is.ensures ∙ c.if-height_is.false in
    c.laid-2.ensures
    ∙ lift_laid a.r a.height _ c.lift_bits-2.result false c.requires (omega arith) (search rules) c.lift_bits-2.ensures
    (simp (high, low)) (simp (high, low))
