-- What is left to be sent shrinks. Assumes nothing.
use Rattle.std.proofs.Common.{length}
use Rattle.streams.proofs.send.Given as goal

abbrev pub decreases-loop-rest : goal.decreases-loop-rest
decreases-loop-rest g l = length l.rest
