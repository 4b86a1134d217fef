use Rattle.plain.specs.Plain.{plain_bits}
use Rattle.plain.proofs.Walking.{RowWalked}
use Rattle.plain.proofs.walks.row_1.Given as goal

abbrev pub invariant-loop-k : goal.invariant-loop-k
invariant-loop-k l = RowWalked (plain_bits l.f) l.w l.half l.k
