-- `plain_station::Plain::timely` meets its contract: present, late or not issued. Assumes nothing.
use Rattle.plain_station.proofs.Outcomes.{back}
use Rattle.plain_station.specs.Plain.{plain_outcome}
use Rattle.station.proofs.Issues.{is_present, is_late, not_issued}
use Rattle.std.proofs.Common.{sym, ap, ◌∙◌, arith, rules}
use Rattle.plain_station.proofs.Plain.timely.Goals as goal

pub returns-in-0 : goal.returns-in-0
returns-in-0 c = c.numbered.ensures ∙ ap plain_outcome (is_present _ _ (search rules) (sym c.behind.ensures ∙ c.in-0.is))

pub returns-in-1-to-32767 : goal.returns-in-1-to-32767
returns-in-1-to-32767 c = back c.args.self (search rules) _ ∙ ap plain_outcome (let e = c.behind.ensures in is_late _ _ (search rules) (omega arith) (omega arith))

pub returns-in_default : goal.returns-in_default
returns-in_default c = back c.args.self (search rules) _ ∙ ap plain_outcome (let e = c.behind.ensures in not_issued _ _ (search rules) (omega arith))
