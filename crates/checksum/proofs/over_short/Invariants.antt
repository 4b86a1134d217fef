use Rattle.checksum.proofs.Running.{Rest, over_all}
use Rattle.checksum.proofs.over_short.Given as goal

abbrev pub invariant-loop-byte : goal.invariant-loop-byte
invariant-loop-byte l = Rest over_all (over_all l.s l.bytes) l.bytes l.state l.byte-index
