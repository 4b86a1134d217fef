-- `station::Station::numbered` meets its contract: a chain of refusals in the order of the definition. Assumes nothing.
use Rattle.std.proofs.Common.{◌≡◌, true, false, refl, ap, ◌∙◌, arith, eq-eqb, ne_eqb}
use Rattle.bits.proofs.Cases.{failed, passed}
use Rattle.answers.specs.declared.Answer.TheVariants.{NotInSet, AlreadyAnswered}
use Rattle.station.specs.Station.{marked}
use Rattle.station.specs.Calls.{refused, ended, numbered}
use Rattle.station.specs.Turns.{unjudged}
use Rattle.station.proofs.Marks.{in_set_lem}
use Rattle.station.proofs.Settling.{refused_as}
use Rattle.station.proofs.Station.numbered.Goals as goal

pub returns-then-not-in_set : goal.returns-then-not-in_set
unfolding numbered
returns-then-not-in_set c = let a = c.args in let p : refused a.self NotInSet ≡ numbered a.self a.i a.ending = rw (failed c.in_set.ensures c.if-not-in_set.true-raw) in c.unmoved.ensures ∙ refused_as a.self a.i a.ending NotInSet refl p

pub overflow_shr-self : goal.overflow_shr-self
overflow_shr-self c = let a = c.args in let h = in_set_lem a.self a.i (passed c.in_set.ensures c.if-not-in_set.false-raw) in omega (arith, h.0, h.1)

pub returns-then-self-i-eq1 : goal.returns-then-self-i-eq1
unfolding numbered
returns-then-self-i-eq1 c = let a = c.args in let answered : marked a.self a.i ≡ true = eq-eqb _ _ c.if-self-i-eq1.true in let p : refused a.self AlreadyAnswered ≡ numbered a.self a.i a.ending = rw (passed c.in_set.ensures c.if-not-in_set.false-raw, answered) in c.unmoved-then-self-i-eq1.ensures ∙ refused_as a.self a.i a.ending AlreadyAnswered refl p

pub ended-requires : goal.ended-requires
ended-requires c = let a = c.args in in_set_lem a.self a.i (passed c.in_set.ensures c.if-not-in_set.false-raw)

pub returns : goal.returns
unfolding numbered
returns c = let a = c.args in let waits : marked a.self a.i ≡ false = ne_eqb _ _ c.if-self-i-eq1.false in let p : ended a.self a.i a.ending ≡ numbered a.self a.i a.ending = rw (passed c.in_set.ensures c.if-not-in_set.false-raw, waits) in c.ended.ensures ∙ ap (unjudged a.self a.i a.ending) p
