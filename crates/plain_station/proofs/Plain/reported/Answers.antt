-- `plain_station::Plain::reported` meets its contract: a chain of refusals in the order of the definition. Assumes nothing.
use Rattle.plain_station.proofs.Outcomes.{back, where_true, where_false}
use Rattle.plain_station.specs.Plain.{packed_of, plain_outcome}
use Rattle.station.specs.Calls.{refused, resulted}
use Rattle.answers.specs.Answers.{nowhere}
use Rattle.answers.specs.declared.Answer.TheVariants.{BadField, NoSet}
use Rattle.std.proofs.Common.{eqb, ltb, ap, ◌∙◌, le-ltb, lt-ltb, eq-eqb, ne_eqb, rules}
use Rattle.plain_station.proofs.Plain.reported.Goals as goal

pub returns-then-report-gt2 : goal.returns-then-report-gt2
unfolding resulted packed_of
returns-then-report-gt2 c = let a = c.args in
    let s = packed_of a.self in
    back c.args.self (search rules) _ ∙ ap plain_outcome (where_true (ltb 2 a.report.ending) (refused s (BadField nowhere)) _ (lt-ltb _ _ c.if-report-gt2.true))

pub returns-then-self-eq0 : goal.returns-then-self-eq0
unfolding resulted packed_of
returns-then-self-eq0 c = let a = c.args in
    let s = packed_of a.self in
    back c.args.self (search rules) _
    ∙ ap plain_outcome (where_true (eqb s.count 0) (refused s NoSet) _ (eq-eqb _ _ c.if-self-eq0.true)
    ∙ where_false (ltb 2 a.report.ending) (refused s (BadField nowhere)) _ (le-ltb _ _ c.if-report-gt2.false))

pub returns : goal.returns
unfolding resulted packed_of
returns c = let a = c.args in
    let s = packed_of a.self in
    c.timely.ensures
    ∙ ap plain_outcome (where_false (eqb s.count 0) (refused s NoSet) _ (ne_eqb _ _ c.if-self-eq0.false)
    ∙ where_false (ltb 2 a.report.ending) (refused s (BadField nowhere)) _ (le-ltb _ _ c.if-report-gt2.false))
