-- `journal_program::older::replayed` meets its contract: a piece more of a journal. Assumes nothing.
use Rattle.journal_program.proofs.Replaying.{piece_short, piece_journaled}
use Rattle.journal_program.proofs.older.replayed.Goals as goal

pub returns : goal.returns
returns c = let piece = c.replay_piece.ensures.0 in
    let pre = c.requires in
    (λ e. piece_short _ _ _ _ _ pre.1 piece e, piece_journaled _ _ _ _ _ pre.1 piece pre.0 pre.2)
