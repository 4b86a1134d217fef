-- `plain_station::Plain::accepted` meets its contract: by what the two searches have found. Assumes nothing.
use Rattle.plain_station.proofs.Outcomes.{back, found, none_found}
use Rattle.plain_station.specs.Plain.{packed_of, plain_outcome}
use Rattle.station.specs.Calls.{refused, accepted}
use Rattle.station.specs.Held.{overlaps_earlier, barred, why_not}
use Rattle.rules.specs.Verdicts.{Verdict, answer_for}
use Rattle.answers.specs.declared.Answer.TheVariants.{Overlap}
use Rattle.answers.specs.declared.Answer.{Answer}
use Rattle.std.proofs.Common.{ap, ◌∙◌, rules}
use Rattle.plain_station.proofs.Plain.accepted.Goals as goal

pub returns-in-Some : goal.returns-in-Some
unfolding accepted
returns-in-Some c = back c.args.self (search rules) _ ∙ ap plain_outcome (found _ (overlaps_earlier _) _ Overlap _ c.least_overlapping.ensures c.in-Some.is)

pub returns-in-Some-least_barred : goal.returns-in-Some-least_barred
unfolding accepted packed_of
returns-in-Some-least_barred c = let s = packed_of c.args.self in
    back c.args.self (search rules) _
    ∙ ap (λ (y : Answer). plain_outcome (refused s y))
    (c.answer_for.ensures ∙ ap (λ (v : Verdict). answer_for v c.in-Some-least_barred.barred)
    c.verdict_at-verdict.ensures)
    ∙ ap plain_outcome (found _ (barred _ s.bits) s (why_not _ s.bits) _ c.least_barred.ensures c.in-Some-least_barred.is
    ∙ none_found _ (overlaps_earlier _) s Overlap _
    c.least_overlapping.ensures
    c.in_default.is)

pub returns : goal.returns
unfolding accepted packed_of
returns c = let s = packed_of c.args.self in
    c.opened.ensures
    ∙ ap plain_outcome (none_found _ (barred _ s.bits) s (why_not _ s.bits) _ c.least_barred.ensures c.in_default-least_barred.is
    ∙ none_found _ (overlaps_earlier _) s Overlap _ c.least_overlapping.ensures c.in_default.is)
