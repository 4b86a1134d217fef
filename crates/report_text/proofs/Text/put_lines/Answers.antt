use native.Mathlib.Omega.{arith}
use Rattle.report_text.proofs.Running.{starts, turns, ends}
use Rattle.report_text.proofs.Text.put_lines.Goals as goal

pub loop-place-init : goal.loop-place-init
loop-place-init c = starts _ _ c.requires.0

pub put_if-requires : goal.put_if-requires
put_if-requires c = omega (arith, c.loop-place.invariant.short, c.loop-place.invariant.lines.same, c.requires)

pub loop-place-preserved : goal.loop-place-preserved
loop-place-preserved c = turns _ _ _ _ _ (omega arith) (omega (arith, c.requires)) c.put_if.ensures.1 c.loop-place.invariant c.put_if.ensures.0

pub returns : goal.returns
returns c = ends _ _ _ _ (omega arith) c.loop-place.invariant
