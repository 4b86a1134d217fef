-- `plain_station::Plain::occurred` meets its contract: in turn, and no part of the lift is set apart. Assumes nothing.
use Rattle.plain_station.proofs.Outcomes.{where_true, where_false}
use Rattle.plain_station.specs.Private.{plain_entered}
use Rattle.plain_station.specs.Plain.{refused_plain, plain_occurred}
use Rattle.plain.specs.Plain.{plain_bits}
use Rattle.answers.specs.Answers.{nowhere}
use Rattle.answers.specs.declared.Answer.TheVariants.{OutOfTurn, SetApart}
use Rattle.rules.specs.Events.{in_turn}
use Rattle.bits.proofs.Cases.{passed, failed}
use Rattle.std.proofs.Common.{◌∙◌}
use Rattle.plain_station.proofs.Plain.occurred.Goals as goal

pub returns-then-not-in_turn : goal.returns-then-not-in_turn
unfolding plain_occurred plain_entered
returns-then-not-in_turn c = let a = c.args in
    where_false (in_turn a.e (plain_bits a.self.floor)) _ (refused_plain a.self OutOfTurn) (failed c.in_turn.ensures c.if-not-in_turn.true-raw)

pub returns-then-self : goal.returns-then-self
unfolding plain_occurred plain_entered
returns-then-self c = let a = c.args in
    where_true a.self.apart.lift (refused_plain a.self (SetApart nowhere)) _ c.if-self.true
    ∙ where_true (in_turn a.e (plain_bits a.self.floor)) _ (refused_plain a.self OutOfTurn) (passed c.in_turn.ensures c.if-not-in_turn.false-raw)

pub returns : goal.returns
unfolding plain_occurred plain_entered
returns c = let a = c.args in
    c.entered.ensures
    ∙ where_false a.self.apart.lift (refused_plain a.self (SetApart nowhere)) _ c.if-self.false
    ∙ where_true (in_turn a.e (plain_bits a.self.floor)) _ (refused_plain a.self OutOfTurn) (passed c.in_turn.ensures c.if-not-in_turn.false-raw)
