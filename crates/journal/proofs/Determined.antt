-- No second answer and no second buffer or room fit what the replay of a piece promises. Assumes nothing.
use Rattle.std.proofs.Common.{◌≡◌, ℕ, List, sym, ◌∙◌}
use Rattle.journal.specs.declared.Replay.{Replay}
use Rattle.journal.specs.Pieces.{Replaying, Replays}

pub one_replaying : (w : Replaying) (r s : Replay) (buf other room another : List ℕ)
    → Replays w r buf room → Replays w s other another → (r ≡ s) × (buf ≡ other) × (room ≡ another)
one_replaying w r s buf other room another p q = (p.0 ∙ sym q.0, p.1 ∙ sym q.1, p.2 ∙ sym q.2)
