-- `service::opening` meets its contract. Assumes nothing.
use Rattle.service.proofs.Hearing.{too_many, bad_length, opened}
use Rattle.station.specs.Turns.{turn_of}
use mathlib.Core.Path.{ap, ◌∙◌}
use Rattle.service.proofs.opening.Goals as goal

pub returns-then-count-gt8 : goal.returns-then-count-gt8
returns-then-count-gt8 c = c.unmoved.ensures ∙ ap turn_of (too_many c.args.s c.args.m.now c.requires.0 c.byte-count.ensures c.if-count-gt8.true)

pub returns-then-m-count : goal.returns-then-m-count
returns-then-m-count c = c.unmoved-then-m-count.ensures ∙ ap turn_of (bad_length c.args.s c.args.m.now c.requires.0 c.byte-count.ensures c.if-count-gt8.false c.if-m-count.true)

pub returns : goal.returns
returns c = c.requested.ensures ∙ ap turn_of (opened c.args.s c.args.m.now c.requires.0 c.byte-count.ensures c.if-count-gt8.false c.if-m-count.false c.requires.1 c.fresh-set.ensures)
