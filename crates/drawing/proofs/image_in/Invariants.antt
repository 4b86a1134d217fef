use Rattle.bits.proofs.Packing.{Packing}
use Rattle.drawing.specs.Private.{bits_at}
use Rattle.drawing.proofs.image_in.Given as goal

abbrev pub invariant-loop-k : goal.invariant-loop-k
invariant-loop-k l = Packing (bits_at l.sheet.apart l.sheet.g l.text l.sheet.lift) l.k l.acc
