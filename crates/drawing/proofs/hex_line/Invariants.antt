use lib.ListN.{replicate}
use Rattle.drawing.specs.Private.{hex_at}
use Rattle.drawing.proofs.Tables.{Filled}
use Rattle.drawing.proofs.hex_line.Given as goal

abbrev pub invariant-loop-t : goal.invariant-loop-t
invariant-loop-t l = Filled (hex_at l.image) (replicate 24 0) 24 l.line l.t
