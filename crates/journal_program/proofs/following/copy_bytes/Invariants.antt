-- What is left to be copied shrinks. Assumes nothing.
use Rattle.journal_program.proofs.following.copy_bytes.Given as goal

abbrev pub decreases-loop-left : goal.decreases-loop-left
decreases-loop-left l = l.left
