use Rattle.drawing.proofs.Sixteen.{gather_starts, gather_skips, gather_keeps, gather_past, gather_ends}
use Rattle.drawing.proofs.digits.gather.Goals as goal

pub loop-b-init : goal.loop-b-init
loop-b-init c = gather_starts _

pub loop-b-preserved-then-is_blank : goal.loop-b-preserved-then-is_blank
loop-b-preserved-then-is_blank c = gather_skips _ c.loop-b.invariant c.loop-b-test.true c.is_blank.ensures c.if-is_blank.true

pub returns-then-count-eq32 : goal.returns-then-count-eq32
returns-then-count-eq32 c =
    gather_past _ c.loop-b.invariant c.loop-b-test.true
    c.is_blank.ensures c.if-is_blank.false c.if-count-eq32.true

pub returns : goal.returns
returns c = gather_ends _ c.loop-b.invariant c.loop-b-test.false

pub loop-b-preserved : goal.loop-b-preserved
loop-b-preserved c =
    gather_keeps _ c.loop-b.invariant c.loop-b-test.true
    c.is_blank.ensures c.if-is_blank.false c.if-count-eq32.false
