use Rattle.bits.proofs.Least.{start}
use Rattle.drawing.specs.Reading.{is_mark}
use Rattle.drawing.proofs.Standing.{stands_not, stands_on, stands_end}
use Rattle.drawing.proofs.marks_stand.Goals as goal

pub loop-i-init : goal.loop-i-init
loop-i-init c = start _ _

pub returns-then-not-is_mark : goal.returns-then-not-is_mark
returns-then-not-is_mark c =
    let x = c.args in
    stands_not (is_mark x.apart) x.text.now x.at x.n _ c.byte.ensures c.is_mark.ensures
    c.loop-i-test.true c.if-not-is_mark.true-raw

pub loop-i-preserved : goal.loop-i-preserved
loop-i-preserved c =
    let x = c.args in
    stands_on (is_mark x.apart) x.text.now x.at x.n _ c.byte.ensures c.is_mark.ensures
    c.loop-i.invariant c.loop-i-test.true c.if-not-is_mark.false-raw

pub returns : goal.returns
returns c =
    let x = c.args in
    stands_end (is_mark x.apart) x.text.now x.at x.n c.loop-i.invariant c.loop-i-test.false
    c.byte-2.ensures
