-- `plan::sets::refused` meets its contract: an overlap, or another refusal. Assumes nothing.
use Rattle.plan.proofs.Numbered.{no_overlap}
use Rattle.plan.proofs.Parts.{refused_overlap, refused_other}
use Rattle.plan.proofs.sets.refused.Goals as goal

pub returns-in_default : goal.returns-in_default
returns-in_default c =
    refused_other _ _ _ _ c.number.ensures c.place.ensures
    (no_overlap c.args.answer c.in_default.not-Overlap) c.lift_if.ensures

pub returns : goal.returns
returns c =
    refused_overlap _ _ _ _ c.number.ensures c.place.ensures c.in-Overlap.is
    c.first_overlapped-earlier.ensures c.parts_at.ensures c.parts_at-2.ensures
