-- `station::Station::settled` meets its contract: a chain of refusals in the order of the definition. Assumes nothing.
use Rattle.std.proofs.Common.{◌≡◌, refl, ap, ◌∙◌, le-ltb, lt-ltb, eq-eqb, ne_eqb}
use Rattle.answers.specs.declared.Answer.TheVariants.{BadField, NoSet}
use Rattle.answers.specs.Answers.{nowhere}
use Rattle.station.specs.Calls.{refused, timely, resulted}
use Rattle.station.specs.Turns.{unjudged, settled}
use Rattle.station.proofs.Settling.{refused_as}
use Rattle.station.proofs.Station.settled.Goals as goal

pub returns-then-report-gt2 : goal.returns-then-report-gt2
unfolding settled resulted
returns-then-report-gt2 c = let a = c.args in let p : refused a.self (BadField nowhere) ≡ resulted a.self a.report = rw (lt-ltb _ _ c.if-report-gt2.true) in c.unmoved.ensures ∙ refused_as a.self a.report.number a.report.ending (BadField nowhere) refl p

pub returns-then-self-eq0 : goal.returns-then-self-eq0
unfolding settled resulted
returns-then-self-eq0 c = let a = c.args in let p : refused a.self NoSet ≡ resulted a.self a.report = rw (le-ltb _ _ c.if-report-gt2.false, eq-eqb _ _ c.if-self-eq0.true) in c.unmoved-then-self-eq0.ensures ∙ refused_as a.self a.report.number a.report.ending NoSet refl p

pub returns : goal.returns
unfolding settled resulted
returns c = let a = c.args in let p : timely a.self a.report ≡ resulted a.self a.report = rw (le-ltb _ _ c.if-report-gt2.false, ne_eqb _ _ c.if-self-eq0.false) in c.timely.ensures ∙ ap (unjudged a.self a.report.number a.report.ending) p
