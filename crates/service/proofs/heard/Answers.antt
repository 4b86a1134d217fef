-- `service::heard` meets its contract, by the kind. Assumes nothing.
use Rattle.service.proofs.Hearing.{no_result, said_refused, said_called}
use Rattle.station.specs.Turns.{turn_of}
use mathlib.Core.Path.{sym, ap, ◌∙◌}
use Rattle.service.proofs.heard.Goals as goal

pub reported-requires : goal.reported-requires
reported-requires c = (c.requires, sym c.kind_at-kind.ensures ∙ c.if-kind-eq3.true)

pub returns-then-kind-eq3 : goal.returns-then-kind-eq3
returns-then-kind-eq3 c = c.reported.ensures

pub returns-in-Err : goal.returns-in-Err
returns-in-Err c = let a = c.args in c.unmoved.ensures ∙ ap turn_of (said_refused a.known a.s a.m.now (rw c.kind_at-kind.ensures at c.if-kind-eq1.false) c.saying.ensures c.in-Err.is)

pub turn-requires : goal.turn-requires
turn-requires c = no_result c.args.m.now (rw c.kind_at-kind.ensures at c.if-kind-eq3.false) c.saying.ensures c.in-Ok.is

pub returns-in-Ok : goal.returns-in-Ok
returns-in-Ok c = let a = c.args in c.turn.ensures ∙ ap turn_of (said_called a.known a.s a.m.now (rw c.kind_at-kind.ensures at c.if-kind-eq1.false) c.saying.ensures c.in-Ok.is)
