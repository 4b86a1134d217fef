use Rattle.bits.proofs.Packing.{Packing}
use Rattle.plain.specs.Plain.{plain_bits}
use Rattle.plain.proofs.Floor.image.Given as goal

abbrev pub invariant-loop-k : goal.invariant-loop-k
invariant-loop-k l = Packing (plain_bits l.self) l.k l.r
