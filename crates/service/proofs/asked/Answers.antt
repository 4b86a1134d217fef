-- `service::asked` meets its contract. Assumes nothing.
use Rattle.service.proofs.Hearing.{request_refused, request_beside, request_unfit}
use Rattle.service.specs.Private.{message_call}
use Rattle.station.specs.Turns.{turn_of}
use Rattle.bits.proofs.Cases.{both}
use borrow.Author.Tests.{eqb-true}
use lib.Dec.{eqb}
use mathlib.Core.Bool.{Bool}
use mathlib.Core.Path.{sym, ap, ◌∙◌}
use Rattle.service.proofs.asked.Goals as goal

pub opening-requires : goal.opening-requires
opening-requires c = (c.requires, eqb-true _ _ (both c.args.known (eqb c.args.s.count 0) c.if-known-s.true).1)

pub returns-then-known-s : goal.returns-then-known-s
returns-then-known-s c = c.opening.ensures ∙ ap (λ (b : Bool). turn_of (message_call b c.args.s c.args.m.now)) (sym (both c.args.known (eqb c.args.s.count 0) c.if-known-s.true).0)

pub returns-in-Err : goal.returns-in-Err
returns-in-Err c = c.unmoved.ensures ∙ ap turn_of (request_refused c.args.s c.args.m.now c.requires c.request_in.ensures c.args.known c.in-Err.is)

pub returns-then-known : goal.returns-then-known
returns-then-known c = c.unmoved-then-known.ensures ∙ ap turn_of (request_beside c.args.s c.args.m.now c.requires c.request_in.ensures c.in-Ok.is c.if-known.true c.if-known-s.false)

pub returns-else-known : goal.returns-else-known
returns-else-known c = c.unmoved-in-Ok.ensures ∙ ap turn_of (request_unfit c.args.s c.args.m.now c.requires c.request_in.ensures c.in-Ok.is c.if-known.false)
