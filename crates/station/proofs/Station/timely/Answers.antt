-- `station::Station::timely` meets its contract, by how far the issue is behind. Assumes nothing.
use Rattle.station.proofs.Issues.{is_present, is_late, not_issued}
use Rattle.answers.specs.declared.Answer.TheVariants.{Late, NotIssued}
use Rattle.station.specs.Turns.{unjudged}
use Rattle.station.proofs.Settling.{refused_as}
use Rattle.std.proofs.Common.{sym, refl, ap, ◌∙◌, arith, rules}
use Rattle.station.proofs.Station.timely.Goals as goal

pub returns-in-0 : goal.returns-in-0
returns-in-0 c = let a = c.args in c.numbered.ensures ∙ ap (unjudged a.self a.report.number a.report.ending) (is_present a.self a.report (search rules) (sym c.behind.ensures ∙ c.in-0.is))

pub returns-in-1-to-32767 : goal.returns-in-1-to-32767
returns-in-1-to-32767 c = let a = c.args in let e = c.behind.ensures in c.unmoved.ensures ∙ refused_as a.self a.report.number a.report.ending Late refl (is_late a.self a.report (search rules) (omega arith) (omega arith))

pub returns-in_default : goal.returns-in_default
returns-in_default c = let a = c.args in let e = c.behind.ensures in c.unmoved-in_default.ensures ∙ refused_as a.self a.report.number a.report.ending NotIssued refl (not_issued a.self a.report (search rules) (omega arith))
