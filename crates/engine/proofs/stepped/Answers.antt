-- `engine::stepped` meets its contract, by what the conditions say; tilts and runs of the lift at once. Assumes nothing.
use Rattle.engine.proofs.Answers.{decided, refused}
use Rattle.engine.proofs.Ruling.{tilt_judge, tilt_move_lem}
use Rattle.rows.specs.Private.{whole}
use Rattle.rules.specs.Verdicts.{judged}
use Rattle.rules.specs.Rules.{well_formed, clauses, next_record}
use Rattle.bits.proofs.Cases.{true→T}
use Rattle.bits.specs.Bits.{bit, image}
use mathlib.Core.Path.{sym, ap, ◌∙◌}
use Rattle.std.proofs.Common.{rules}
use Rattle.engine.proofs.stepped.Goals as goal

pub lift_next-requires : goal.lift_next-requires
lift_next-requires c = true→T (ap well_formed (sym c.in-Lift.is) ∙ c.requires.0)

pub returns-in-Tilt : goal.returns-in-Tilt
returns-in-Tilt c =
    let a = c.args in
    let p = c.requires in
    c.decided.ensures ∙ decided a.i a.r p.0 c.verdict_by.result
    (c.verdict_by.ensures ∙ c.tilt_judged.ensures ∙ tilt_judge a.i a.r a.a p.0 p.1 c.in-Tilt.is)
    c.tilt_next.result
    (tilt_move_lem a.i a.r a.a p.0 p.1 (ap whole c.in-Tilt.is) c.tilt_next.result (search rules) c.in-Tilt.is c.tilt_next.ensures)

pub returns-in-Lift : goal.returns-in-Lift
returns-in-Lift c =
    let a = c.args in
    let p = c.requires in
    c.decided-in-Lift.ensures ∙ decided a.i a.r p.0 c.verdict_by-in-Lift.result
    (c.verdict_by-in-Lift.ensures ∙ c.lift_judged.ensures ∙ ap (λ i. judged (clauses i) (bit a.r)) (sym c.in-Lift.is))
    c.lift_next.result
    (c.lift_next.ensures ∙ ap (λ i. image (next_record i (bit a.r))) (sym c.in-Lift.is))

pub returns-in_err-verdict_by-in_default : goal.returns-in_err-verdict_by-in_default
returns-in_err-verdict_by-in_default c =
    refused c.args.i c.args.r c.requires.0 _ (c.verdict_by-in_default.ensures ∙ c.told.ensures) c.from_residual.result _ c.in_err-verdict_by-in_default.was (search rules)
