-- `plain_station::Plain::asked` meets its contract: a chain of refusals in the order of the definition. Assumes nothing.
use Rattle.plain_station.proofs.Outcomes.{back, where_true, where_false, found, none_found}
use Rattle.plain_station.specs.Plain.{packed_of, plain_outcome}
use Rattle.station.specs.Calls.{refused, requested}
use Rattle.station.specs.Held.{bad}
use Rattle.answers.specs.declared.Answer.TheVariants.{SetOutstanding, TooMany, EmptySet, BadField}
use Rattle.std.proofs.Common.{eqb, ltb, ap, ◌∙◌, le-ltb, lt-ltb, eq-eqb, ne_eqb, rules}
use Rattle.plain_station.proofs.Plain.asked.Goals as goal

pub returns-then-self-gt0 : goal.returns-then-self-gt0
unfolding requested packed_of
returns-then-self-gt0 c = let s = packed_of c.args.self in
    back c.args.self (search rules) _ ∙ ap plain_outcome (where_true (ltb 0 s.count) (refused s SetOutstanding) _ (lt-ltb _ _ c.if-self-gt0.true))

pub returns-then-count-gt-MOST : goal.returns-then-count-gt-MOST
unfolding requested packed_of
returns-then-count-gt-MOST c = let a = c.args in
    let s = packed_of a.self in
    back c.args.self (search rules) _
    ∙ ap plain_outcome (where_true (ltb 8 a.count) (refused s TooMany) _ (lt-ltb _ _ c.if-count-gt-MOST.true)
    ∙ where_false (ltb 0 s.count) (refused s SetOutstanding) _ (le-ltb _ _ c.if-self-gt0.false))

pub returns-then-count-eq0 : goal.returns-then-count-eq0
unfolding requested packed_of
returns-then-count-eq0 c = let a = c.args in
    let s = packed_of a.self in
    back c.args.self (search rules) _
    ∙ ap plain_outcome (where_true (eqb a.count 0) (refused s EmptySet) _ (eq-eqb _ _ c.if-count-eq0.true)
    ∙ where_false (ltb 8 a.count) (refused s TooMany) _ (le-ltb _ _ c.if-count-gt-MOST.false)
    ∙ where_false (ltb 0 s.count) (refused s SetOutstanding) _ (le-ltb _ _ c.if-self-gt0.false))

pub returns-in-Some : goal.returns-in-Some
unfolding requested packed_of
returns-in-Some c = let a = c.args in
    let s = packed_of a.self in
    back c.args.self (search rules) _
    ∙ ap plain_outcome (found _ (bad _) s BadField _ c.least_bad.ensures c.in-Some.is
    ∙ where_false (eqb a.count 0) (refused s EmptySet) _ (ne_eqb _ _ c.if-count-eq0.false)
    ∙ where_false (ltb 8 a.count) (refused s TooMany) _ (le-ltb _ _ c.if-count-gt-MOST.false)
    ∙ where_false (ltb 0 s.count) (refused s SetOutstanding) _ (le-ltb _ _ c.if-self-gt0.false))

pub returns : goal.returns
unfolding requested packed_of
returns c = let a = c.args in
    let s = packed_of a.self in
    c.cleared.ensures
    ∙ ap plain_outcome (none_found _ (bad _) s BadField _ c.least_bad.ensures c.in_default.is
    ∙ where_false (eqb a.count 0) (refused s EmptySet) _ (ne_eqb _ _ c.if-count-eq0.false)
    ∙ where_false (ltb 8 a.count) (refused s TooMany) _ (le-ltb _ _ c.if-count-gt-MOST.false)
    ∙ where_false (ltb 0 s.count) (refused s SetOutstanding) _ (le-ltb _ _ c.if-self-gt0.false))
