-- `plain_station::Plain::ended` meets its contract: done, stuck or failed. Assumes nothing.
use Rattle.plain_station.proofs.Standing.{Sized}
use Rattle.plain_station.proofs.Outcomes.{is_done, is_stuck, has_failed}
use Rattle.std.proofs.Common.{rules, arith}
use Rattle.plain_station.proofs.Plain.ended.Goals as goal
use Rattle.plain_station.proofs.Plain.ended.Goals.{Start}

sized : (c : Start) → Sized c.args.self
sized c = search rules

pub returns-in-1 : goal.returns-in-1
returns-in-1 c = let a = c.args in is_done a.self a.i a.ending
    (sized (goal.at.returns-in-1 c).Start)
    c.requires.0
    c.requires.1 c.in-1.is
    c.moved_by.ensures c.answering.ensures

pub returns-in-2 : goal.returns-in-2
returns-in-2 c = let a = c.args in is_stuck a.self a.i
    a.ending (sized (goal.at.returns-in-2 c).Start)
    c.requires.0
    c.requires.1 c.in-2.is
    c.area_at.ensures c.with.ensures c.answering-in-2.ensures

pub returns-in_default : goal.returns-in_default
returns-in_default c = let a = c.args in has_failed a.self a.i a.ending
    (sized (goal.at.returns-in_default c).Start) c.requires.0
    c.requires.1 (λ e. omega arith) (λ e. omega arith)
    c.answering-in_default.ensures
