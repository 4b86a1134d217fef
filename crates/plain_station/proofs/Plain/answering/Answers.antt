-- `plain_station::Plain::answering` meets its contract: with the last mark the set is gone. Assumes nothing.
use Rattle.plain_station.proofs.Outcomes.{where_true, where_false}
use Rattle.plain_station.specs.Private.{plain_answering}
use Rattle.plain_station.specs.declared.Plain.{Plain}
use Rattle.answers.specs.declared.Answer.TheVariants.{Taken}
use Rattle.std.proofs.Common.{sym, ap, ◌∙◌}
use Rattle.plain_station.proofs.Plain.answering.Goals as goal

pub returns-then-all_answered : goal.returns-then-all_answered
unfolding plain_answering
returns-then-all_answered c = ap (λ (p : Plain). record { station = p; answer = Taken }) (where_true _ _ _ (sym c.all_answered.ensures ∙ c.if-all_answered.true))

pub returns : goal.returns
unfolding plain_answering
returns c = ap (λ (p : Plain). record { station = p; answer = Taken }) (where_false _ _ _ (sym c.all_answered.ensures ∙ c.if-all_answered.false))
