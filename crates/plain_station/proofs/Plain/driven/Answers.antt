-- `plain_station::Plain::driven` meets its contract: no set that holds the lift is outstanding, or one is. Assumes nothing.
use Rattle.plain_station.proofs.Outcomes.{where_true, where_false}
use Rattle.plain_station.specs.Plain.{refused_plain, plain_driven}
use Rattle.station.specs.Held.{lift_in}
use Rattle.answers.specs.declared.Answer.TheVariants.{SetOutstanding}
use Rattle.std.proofs.Common.{sym, ◌∙◌}
use Rattle.plain_station.proofs.Plain.driven.Goals as goal

pub returns-then-lift_in : goal.returns-then-lift_in
unfolding plain_driven
returns-then-lift_in c = let p = c.args.self in
    where_true (lift_in p.set p.count) (refused_plain p SetOutstanding) _ (sym c.lift_in.ensures ∙ c.if-lift_in.true)

pub returns : goal.returns
unfolding plain_driven
returns c = let p = c.args.self in
    c.occurred.ensures ∙ where_false (lift_in p.set p.count) (refused_plain p SetOutstanding) _ (sym c.lift_in.ensures ∙ c.if-lift_in.false)
