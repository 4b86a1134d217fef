-- `engine::lifts::lift_judged` meets its contract: each return is one case of the conditions. Assumes nothing.
use Rattle.engine.proofs.Lifting.{lift_law}
use Rattle.bits.specs.Bits.{bit}
use borrow.Author.Tests.{not-true, not-false}
use mathlib.Core.Bool.{true, false, ◌&&◌}
use mathlib.Core.Path.{refl, sym, ap₂, ◌∙◌}
use Rattle.engine.proofs.lifts.lift_judged.Goals as goal

pub returns-then-height_is : goal.returns-then-height_is
returns-then-height_is c = lift_law c.args.height (bit c.args.r) true _ _ _ (sym c.if-height_is.true ∙ c.height_is.ensures) refl refl refl

pub returns-then-not-height_is : goal.returns-then-not-height_is
returns-then-not-height_is c = lift_law c.args.height (bit c.args.r) false false _ _ (sym c.if-height_is.false ∙ c.height_is.ensures) (sym (not-true _ c.if-not-height_is.true-raw) ∙ c.height_is-2.ensures) refl refl

pub returns-then-free : goal.returns-then-free
returns-then-free c = lift_law c.args.height (bit c.args.r) false true true _ (sym c.if-height_is.false ∙ c.height_is.ensures) (sym (not-false _ c.if-not-height_is.false-raw) ∙ c.height_is-2.ensures) (sym c.if-free.true ∙ c.free.ensures) refl

pub returns-then-even : goal.returns-then-even
returns-then-even c = lift_law c.args.height (bit c.args.r) false true false true (sym c.if-height_is.false ∙ c.height_is.ensures) (sym (not-false _ c.if-not-height_is.false-raw) ∙ c.height_is-2.ensures) (sym c.if-free.false ∙ c.free.ensures) (sym c.if-even.true ∙ ap₂ ◌&&◌ c.even.ensures c.even-2.ensures)

pub returns : goal.returns
returns c = lift_law c.args.height (bit c.args.r) false true false false (sym c.if-height_is.false ∙ c.height_is.ensures) (sym (not-false _ c.if-not-height_is.false-raw) ∙ c.height_is-2.ensures) (sym c.if-free.false ∙ c.free.ensures) (sym c.if-even.false ∙ ap₂ ◌&&◌ c.even.ensures c.even-2.ensures)
