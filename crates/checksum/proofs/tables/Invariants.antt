use Prim.Native.Nat.{◌≤◌}
use Rattle.checksum.proofs.Running.{Made}
use Rattle.checksum.proofs.tables.Given as goal

abbrev pub invariant-loop-p : goal.invariant-loop-p
invariant-loop-p l = Made l.t l.p × (l.p ≤ 256)

abbrev pub invariant-loop-p-2 : goal.invariant-loop-p-2
invariant-loop-p-2 l = Made l.t l.p × (256 ≤ l.p) × (l.p ≤ 1024)
