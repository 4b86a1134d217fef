use lib.ListN.{drop}
use Rattle.checksum.specs.Slices.{over_bytes}
use Rattle.checksum.proofs.Running.{Rest}
use Rattle.checksum.proofs.over_rest.Given as goal

abbrev pub invariant-loop-i : goal.invariant-loop-i
invariant-loop-i l = Rest (over_bytes l.t) (over_bytes l.t l.s (drop l.from l.bytes)) l.bytes l.state l.i
