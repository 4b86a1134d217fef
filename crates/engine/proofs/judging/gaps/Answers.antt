-- `engine::judging::gaps` meets its contract: the sum fits a byte. Assumes nothing.
use native.Mathlib.Omega.{arith}
use Rattle.engine.proofs.Masking.{gap_small}
use Rattle.engine.proofs.judging.gaps.Goals as goal

pub overflow_add-result : goal.overflow_add-result
overflow_add-result c = let h = gap_small c.args.mask c.requires in omega (arith, h)
