-- `journal_program::following::follow_on` meets its contract. Assumes nothing.
use Rattle.std.proofs.Common.{◌≡◌, ℕ, length, sym}
use Rattle.std.proofs.Math.ListN.{replicate}
use Rattle.std.proofs.lemmas.List.{length-replicate}
use Rattle.journal_program.proofs.Recorded.{room_twice}
use Rattle.journal_program.proofs.following.follow_on.Goals as goal

-- so many zeros: by a lemma, since they are too many to be counted
zeros : (n : ℕ) → n ≡ length (replicate {A = ℕ} n 0)
zeros n = sym (length-replicate {A = ℕ} n 0)

pub slice_bounds-follow_in-end-3 : goal.slice_bounds-follow_in-end-3
slice_bounds-follow_in-end-3 c = zeros 655520

pub follow_in-requires : goal.follow_in-requires
follow_in-requires c = (c.tables-t.ensures, room_twice (zeros 655520))
