-- `plan::explain` meets its contract: cut short, a wish that is neither, bytes left over, then the plan. Assumes nothing.
use Rattle.std.proofs.Common.{◌∙◌, arith}
use Rattle.plan.proofs.Cases.{cut_short_lem, bad_wish, left_over, as_weighed}
use Rattle.plan.proofs.explain.Goals as goal

pub returns-then-plan-n : goal.returns-then-plan-n
returns-then-plan-n c = c.wholly.ensures ∙ cut_short_lem _ _ c.size-n.ensures c.if-plan-n.true

pub returns-then-byte-gt1 : goal.returns-then-byte-gt1
returns-then-byte-gt1 c =
    c.wholly-then-byte-gt1.ensures ∙ bad_wish _ _ c.size-n.ensures c.if-plan-n.false
    (omega (arith, c.byte.ensures, c.if-byte-gt1.true))

pub returns-then-n-plan : goal.returns-then-n-plan
returns-then-n-plan c =
    c.wholly-then-n-plan.ensures ∙ left_over _ _ c.size-n.ensures
    (omega (arith, c.byte.ensures, c.if-byte-gt1.false)) c.if-n-plan.true

pub weighed-requires : goal.weighed-requires
weighed-requires c = omega (arith, c.size-n.ensures, c.if-plan-n.false, c.if-n-plan.false)

pub returns : goal.returns
returns c =
    c.weighed.ensures ∙ as_weighed _ _ c.size-n.ensures
    (omega (arith, c.byte.ensures, c.if-byte-gt1.false))
    (omega (arith, c.if-plan-n.false, c.if-n-plan.false))
