-- `week::op_at` meets its contract: an instruction's first byte, or none past the eighth. Assumes nothing.
use mathlib.Core.Path.{ap, sym}
use Rattle.rules.specs.declared.Code.{Code}
use Rattle.station.proofs.Padding.{five_at}
use Rattle.station.proofs.Loops.{past_eighth}
use Rattle.week.proofs.op_at.Goals as goal

pub returns-then-i-ge8 : goal.returns-then-i-ge8
returns-then-i-ge8 c = ap (λ (x : Code). x.op) (past_eighth _ _ c.told-set c.if-i-ge8.true)

pub returns : goal.returns
returns c = sym (ap (λ (x : Code). x.op) (five_at _ _))
