-- `station::Station::answering` meets its contract: with the last mark the set is closed. Assumes nothing.
use Rattle.station.proofs.Marks.{mark_of, last_answer, one_answer}
use Rattle.station.specs.Turns.{turn_of}
use Rattle.station.specs.Calls.{taken}
use Rattle.station.specs.declared.Station.{Station}
use Rattle.std.proofs.Common.{ap, arith}
use Rattle.station.proofs.Station.answering.Goals as goal

pub returns-then-marks-all : goal.returns-then-marks-all
returns-then-marks-all c = let a = c.args in rw c.holding.ensures (ap (λ (s : Station). turn_of (taken s)) (last_answer a.self a.i a.r a.apart (mark_of _ (omega arith)) c.all_marks-all.ensures c.if-marks-all.true))

pub returns : goal.returns
returns c = let a = c.args in rw c.holding-2.ensures (ap (λ (s : Station). turn_of (taken s)) (one_answer a.self a.i a.r a.apart (mark_of _ (omega arith)) c.all_marks-all.ensures c.if-marks-all.false))
