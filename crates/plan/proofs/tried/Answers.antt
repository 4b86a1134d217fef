-- `plan::tried` meets its contract: each turn keeps `Trying`. Assumes nothing.
use Rattle.std.proofs.Common.{ℕ, ◌+◌, ◌-◌, ◌*◌, ◌≤◌, cond, length, get_or, refl, ap, ◌∙◌, arith}
use Rattle.bits.specs.Bits.{bit}
use Rattle.floor.specs.Tests.{holds}
use Rattle.plan.specs.Plans.{wholly, wished}
use Rattle.plan.proofs.Walking.{part_length, trying_start, trying_within, trying_refused, trying_turn, trying_end}
use Rattle.plan.proofs.tried.Goals as goal

pub loop-k-init : goal.loop-k-init
loop-k-init c = trying_start _ _ _ _ c.byte-n.ensures c.args.plan.sized

pub overflow_add-from : goal.overflow_add-from
overflow_add-from c = omega (arith, trying_within _ _ _ _ _ c.loop-k.invariant (omega arith) refl)

pub overflow_cast-to : goal.overflow_cast-to
overflow_cast-to c = omega (arith, trying_within _ _ _ _ _ c.loop-k.invariant (omega arith) refl)

pub overflow_mul-to : goal.overflow_mul-to
overflow_mul-to c = omega (arith, trying_within _ _ _ _ _ c.loop-k.invariant (omega arith) refl)

pub overflow_add-to : goal.overflow_add-to
overflow_add-to c = omega (arith, trying_within _ _ _ _ _ c.loop-k.invariant (omega arith) refl)

pub slice_bounds-asked-end : goal.slice_bounds-asked-end
slice_bounds-asked-end c = trying_within _ _ _ _ _ c.loop-k.invariant (omega arith) refl

pub asked-o-requires : goal.asked-o-requires
asked-o-requires c = part_length _ _ _ (trying_within _ _ _ _ _ c.loop-k.invariant (omega arith) refl)

pub slice_bounds-set_of-end : goal.slice_bounds-set_of-end
slice_bounds-set_of-end c = trying_within _ _ _ _ _ c.loop-k.invariant (omega arith) refl

pub returns-then-number-ne0 : goal.returns-then-number-ne0
returns-then-number-ne0 c =
    trying_refused _ _ _ _ _ c.loop-k.invariant (omega arith) refl _ _ c.asked-o.ensures
    c.number.ensures c.if-number-ne0.true c.set_of.ensures c.refused.ensures

pub loop-k-preserved : goal.loop-k-preserved
loop-k-preserved c =
    trying_turn _ _ _ _ _ c.loop-k.invariant (omega arith) refl _ _
    c.asked-o.ensures c.number.ensures c.if-number-ne0.false
    c.succeeded-s.ensures

pub returns : goal.returns
returns c =
    c.ended.ensures ∙ ap
    (λ (w : ℕ). wholly (cond (holds (wished w) (bit c.loop-k.s.bits)) 0 36) c.loop-k.s.bits)
    c.byte.ensures ∙ trying_end _ _ _ _ c.loop-k.invariant (omega arith)
