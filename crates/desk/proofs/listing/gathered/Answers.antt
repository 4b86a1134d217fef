-- `desk::listing::gathered` meets its contract: each turn lays the line that the closure gives. Assumes nothing.
use native.Mathlib.Omega.{arith}
use Rattle.desk.proofs.Laying.{laid_start, laid_turn}
use Rattle.desk.proofs.listing.gathered.Goals as goal

pub loop-j-init : goal.loop-j-init
loop-j-init g c f e = laid_start _ _

pub loop-j-preserved : goal.loop-j-preserved
loop-j-preserved g c f e =
    laid_turn _ _ _ (c.loop-j.invariant f e) (e c.loop-j.j (omega arith) c.line.result c.line.ensures) c.with_line-all.ensures
