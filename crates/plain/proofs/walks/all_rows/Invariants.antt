use Rattle.plain.specs.Plain.{plain_bits}
use Rattle.plain.proofs.Walking.{RowsWalked}
use Rattle.plain.proofs.walks.all_rows.Given as goal

abbrev pub invariant-loop-k : goal.invariant-loop-k
invariant-loop-k l = RowsWalked (plain_bits l.f) l.w l.k
