-- `station::Station::occurred` meets its contract: by what the event does to the record, unless the lift is set apart. Assumes nothing.
use Rattle.station.proofs.Moves.{moved_event, unless_apart_lem}
use Rattle.station.specs.Turns.{turn_of}
use Rattle.std.specs.declared.result.Result.TheVariants.{Err}
use Rattle.std.proofs.Common.{sym, ap, ◌∙◌}
use Rattle.station.proofs.Station.occurred.Goals as goal

pub returns-in-Ok : goal.returns-in-Ok
returns-in-Ok c = unless_apart_lem c.args.self _ c.unless_apart.ensures c.holding.ensures ∙ ap turn_of (moved_event _ _ (sym c.in-Ok.is ∙ c.driven.ensures))

pub returns-in-Err-OutOfTurn : goal.returns-in-Err-OutOfTurn
returns-in-Err-OutOfTurn c = c.unmoved.ensures ∙ ap turn_of (moved_event _ _ (sym (c.in-Err-OutOfTurn.is ∙ ap Err c.in-Err-OutOfTurn.field-0-is) ∙ c.driven.ensures))

pub returns-in-Err-Impossible : goal.returns-in-Err-Impossible
returns-in-Err-Impossible c = unless_apart_lem c.args.self _ c.unless_apart-in-Err-Impossible.ensures c.unmoved-in-Err-Impossible.ensures ∙ ap turn_of (moved_event _ _ (sym (c.in-Err-Impossible.is ∙ ap Err c.in-Err-Impossible.field-0-is) ∙ c.driven.ensures))

pub returns-in-Err-KeptOpen : goal.returns-in-Err-KeptOpen
returns-in-Err-KeptOpen c = unless_apart_lem c.args.self _ c.unless_apart-in-Err-KeptOpen.ensures c.unmoved-in-Err-KeptOpen.ensures ∙ ap turn_of (moved_event _ _ (sym (c.in-Err-KeptOpen.is ∙ ap Err c.in-Err-KeptOpen.field-0-is) ∙ c.driven.ensures))
