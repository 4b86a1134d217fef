-- `station::held::after` meets its contract: by what the instruction does to the record. Assumes nothing.
use Rattle.station.proofs.Moves.{held_after_lem}
use Rattle.std.proofs.Common.{sym, ◌∙◌}
use Rattle.station.proofs.held.after.Goals as goal

pub returns-in-Ok : goal.returns-in-Ok
returns-in-Ok c = held_after_lem _ _ (sym c.in-Ok.is ∙ c.code_moved.ensures)

pub returns-in-Err-NotAllowed : goal.returns-in-Err-NotAllowed
returns-in-Err-NotAllowed c = held_after_lem _ _ (sym c.in-Err-NotAllowed.is ∙ c.code_moved.ensures)

pub returns-in-Err-IllFormed : goal.returns-in-Err-IllFormed
returns-in-Err-IllFormed c = held_after_lem _ _ (sym c.in-Err-IllFormed.is ∙ c.code_moved.ensures)
