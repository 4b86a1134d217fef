use Prim.Native.Nat.{◌*◌}
use Rattle.checksum.specs.Slices.{over_fours}
use Rattle.checksum.proofs.Running.{Rest}
use Rattle.checksum.proofs.over_fours.Given as goal

abbrev pub invariant-loop-k : goal.invariant-loop-k
invariant-loop-k l = Rest (over_fours l.t) (over_fours l.t l.s l.bytes) l.bytes l.state (4 * l.k)
