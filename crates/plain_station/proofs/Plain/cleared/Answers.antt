-- `plain_station::Plain::cleared` meets its contract: the lift under a driver, then what is set apart. Assumes nothing.
use Rattle.plain_station.proofs.Outcomes.{back, where_true, where_false, found, none_found, under_driver}
use Rattle.plain_station.specs.Plain.{packed_of, plain_outcome}
use Rattle.station.specs.Calls.{refused, spared, cleared}
use Rattle.station.specs.Held.{touches, crosses_drive}
use Rattle.answers.specs.declared.Answer.TheVariants.{OutOfTurn, SetApart}
use Rattle.std.proofs.Common.{sym, ap, ◌∙◌, rules}
use Rattle.plain_station.proofs.Plain.cleared.Goals as goal

pub returns-then-floor-lift_in : goal.returns-then-floor-lift_in
unfolding cleared packed_of crosses_drive
returns-then-floor-lift_in c = let s = packed_of c.args.self in
    back c.args.self (search rules) _
    ∙ ap plain_outcome (where_true (crosses_drive s.bits _ _) (refused s OutOfTurn) _ (sym (under_driver _ c.lift_in.ensures) ∙ c.if-floor-lift_in.true))

pub returns-in-Some : goal.returns-in-Some
unfolding cleared spared packed_of crosses_drive
returns-in-Some c = let s = packed_of c.args.self in
    back c.args.self (search rules) _
    ∙ ap plain_outcome (found _ (touches _ s.apart) s SetApart _ c.least_touching.ensures c.in-Some.is
    ∙ where_false (crosses_drive s.bits _ _) (refused s OutOfTurn) _
    (sym (under_driver _ c.lift_in.ensures)
    ∙ c.if-floor-lift_in.false))

pub returns : goal.returns
unfolding cleared spared packed_of crosses_drive
returns c = let s = packed_of c.args.self in
    c.accepted.ensures
    ∙ ap plain_outcome (none_found _ (touches _ s.apart) s SetApart _ c.least_touching.ensures c.in_default.is
    ∙ where_false (crosses_drive s.bits _ _) (refused s OutOfTurn) _
    (sym (under_driver _ c.lift_in.ensures)
    ∙ c.if-floor-lift_in.false))
