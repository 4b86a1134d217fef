-- `plan::sets::first_overlapped` meets its contract: it overlaps none of those passed. Assumes nothing.
use Rattle.std.proofs.Common.{◌-◌, sym, ◌∙◌}
use Rattle.bits.proofs.Least.{start, turn, here, past}
use Rattle.plan.proofs.Parts.{overlap_so, meets_so, meets_not}
use Rattle.plan.proofs.sets.first_overlapped.Goals as goal

pub loop-j-init : goal.loop-j-init
loop-j-init c = start _ _

pub returns-then-own-parts_at-ne0 : goal.returns-then-own-parts_at-ne0
returns-then-own-parts_at-ne0 c =
    here c.loop-j.invariant c.loop-j-test.true
    (sym (overlap_so _ _ _ c.parts_at-own.ensures c.parts_at.ensures) ∙ meets_so _ c.if-own-parts_at-ne0.true)

pub loop-j-preserved : goal.loop-j-preserved
loop-j-preserved c =
    turn c.loop-j.invariant c.loop-j-test.true
    (sym (overlap_so _ _ _ c.parts_at-own.ensures c.parts_at.ensures) ∙ meets_not _ c.if-own-parts_at-ne0.false)

pub returns : goal.returns
returns c = past c.loop-j.invariant c.loop-j-test.false
