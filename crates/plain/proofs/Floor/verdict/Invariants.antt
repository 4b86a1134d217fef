use Rattle.plain.specs.Plain.{plain_bits}
use Rattle.plain.proofs.Telling.{Searched}
use Rattle.plain.proofs.Floor.verdict.Given as goal

abbrev pub invariant-loop-c : goal.invariant-loop-c
invariant-loop-c l = Searched l.i (plain_bits l.self) l.c
