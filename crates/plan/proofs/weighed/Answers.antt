-- `plan::weighed` meets its contract: the image, how many sets, then the sets. Assumes nothing.
use Rattle.std.proofs.Common.{◌≡◌, ap, ◌∙◌, arith}
use Rattle.answers.specs.Answers.{number_of}
use Rattle.station.specs.declared.Outcome.{Outcome}
use Rattle.plan.specs.Plans.{plan_in, tried, imaged_at}
use Rattle.plan.proofs.Walking.{plan_sets}
use Rattle.plan.proofs.Cases.{image_refused, too_many, as_tried}
use Rattle.plan.proofs.weighed.Goals as goal
use Rattle.plan.proofs.weighed.Goals.{After-number-number}

-- the number that the image is answered with
numbered : (c : After-number-number) → c.number-number.result ≡ number_of (imaged_at (plan_in c.args.plan.bytes.now)).answer
numbered c = c.number-number.ensures ∙ ap (λ (o : Outcome). number_of o.answer) c.imaged-o.ensures

pub returns-then-number-ne0 : goal.returns-then-number-ne0
returns-then-number-ne0 c = c.wholly.ensures ∙ image_refused _ _ (numbered (goal.at.returns-then-number-ne0 c).After-number-number) c.if-number-ne0.true

pub returns-then-byte-gt-SETS_MOST : goal.returns-then-byte-gt-SETS_MOST
returns-then-byte-gt-SETS_MOST c =
    c.wholly-then-byte-gt-SETS_MOST.ensures ∙ too_many (plan_in c.args.plan.bytes.now) _
    (numbered (goal.at.returns-then-byte-gt-SETS_MOST c).After-number-number) c.if-number-ne0.false
    (omega (arith, c.byte.ensures, c.if-byte-gt-SETS_MOST.true, plan_sets c.args.plan.bytes.now))

pub returns : goal.returns
returns c =
    let p = plan_in c.args.plan.bytes.now in
    c.tried.ensures ∙ ap (λ (o : Outcome). tried p.wish 0 o.station p.sets)
    c.imaged-o.ensures ∙ as_tried p _
    (numbered (goal.at.returns c).After-number-number) c.if-number-ne0.false
    (omega (arith, c.byte.ensures, c.if-byte-gt-SETS_MOST.false, plan_sets c.args.plan.bytes.now))
