-- `station::Station::resulted` meets its contract: a success is judged after all. Assumes nothing.
use Rattle.std.proofs.Common.{ap, ◌∙◌}
use Rattle.rules.specs.declared.Code.{Code}
use Rattle.station.specs.Held.{held_after}
use Rattle.station.proofs.Settling.{judged_after, unjudged_same}
use Rattle.station.proofs.Station.resulted.Goals as goal

pub returns-then-report-number : goal.returns-then-report-number
returns-then-report-number c = let a = c.args in judged_after a.self a.report c.settled-told.ensures (c.after.ensures ∙ ap (λ (x : Code). held_after x a.self.bits) c.code_at-x.ensures) c.number.ensures c.if-report-number.true

pub returns : goal.returns
returns c = let a = c.args in unjudged_same a.self a.report c.settled-told.ensures c.number.ensures c.if-report-number.false
