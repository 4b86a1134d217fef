-- `plain_station::results::all_answered` meets its contract: none of the marks passed is missing. Assumes nothing.
use Rattle.plain_station.proofs.Marks.{one_open, none_open}
use Rattle.bits.proofs.Least.{start, turn}
use borrow.Author.Tests.{not-true}
use Rattle.plain_station.proofs.results.all_answered.Goals as goal

pub loop-i-init : goal.loop-i-init
loop-i-init c = start _ _

pub returns-then-not-marks-i : goal.returns-then-not-marks-i
returns-then-not-marks-i c = one_open _ c.loop-i-test.true (not-true _ c.if-not-marks-i.true-raw)

pub loop-i-preserved : goal.loop-i-preserved
loop-i-preserved c = turn c.loop-i.invariant c.loop-i-test.true c.if-not-marks-i.false-raw

pub returns : goal.returns
returns c = none_open _ c.loop-i.invariant c.loop-i-test.false
