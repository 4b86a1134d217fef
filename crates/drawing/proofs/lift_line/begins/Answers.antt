use Rattle.drawing.proofs.Begun.{alike_starts, alike_turns, alike_ends, alike_short, alike_not}
use Rattle.drawing.proofs.lift_line.begins.Goals as goal

pub loop-i-init : goal.loop-i-init
loop-i-init c = alike_starts _ _ _

pub returns-then-text-at : goal.returns-then-text-at
returns-then-text-at c = let x = c.args in alike_short x.text.now x.at x.word.now c.loop-i-test.true c.if-text-at.true

pub returns-then-text-at-2 : goal.returns-then-text-at-2
returns-then-text-at-2 c = let x = c.args in alike_not x.text.now x.at x.word.now c.loop-i-test.true c.if-text-at-2.true

pub loop-i-preserved : goal.loop-i-preserved
loop-i-preserved c =
    let x = c.args in
    alike_turns x.text.now x.at x.word.now c.loop-i.invariant
    c.loop-i-test.true c.if-text-at.false c.if-text-at-2.false

pub returns : goal.returns
returns c = let x = c.args in alike_ends x.text.now x.at x.word.now c.loop-i.invariant c.loop-i-test.false
