use Rattle.plain.specs.Plain.{plain_bits}
use Rattle.plain.proofs.Spans.{Counting}
use Rattle.plain.proofs.belts.at_end.Given as goal

abbrev pub invariant-loop-j : goal.invariant-loop-j
invariant-loop-j l = Counting l.row l.mask l.toward l.n (plain_bits l.f) l.left l.m l.j
