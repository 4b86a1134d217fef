-- `journal::replay_piece` meets its contract: what is held after a turn is no more than there was. Assumes nothing.
use Rattle.journal.proofs.Pieces.{held_within, one_piece}
use Rattle.journal.proofs.replay_piece.Goals as goal

pub overflow_sub-end : goal.overflow_sub-end
overflow_sub-end c = held_within _ _ _ _ _ c.turn-t.ensures.0

pub returns : goal.returns
returns c = one_piece _ _ _ _ _ _ _ _ c.turn-t.ensures c.wrapping_add_usize.ensures.value
