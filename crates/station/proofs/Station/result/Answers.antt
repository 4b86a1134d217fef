-- `station::Station::result` meets its contract: an unfit station is refused before all else, and on a fit one nothing is judged. Assumes nothing.
use Rattle.std.proofs.Common.{◌∙◌}
use Rattle.station.specs.Calls.{result}
use Rattle.bits.proofs.Cases.{failed, passed}
use Rattle.station.proofs.Turns.{rebuilt, kept_resulted}
use Rattle.station.proofs.Settling.{settled_fit}
use Rattle.station.proofs.Station.result.Goals as goal

pub returns-then-not-fit : goal.returns-then-not-fit
unfolding result
returns-then-not-fit c = c.refused.ensures ∙ rw (failed c.fit.ensures c.if-not-fit.true-raw)

pub returns : goal.returns
unfolding result
returns c = let h = passed c.fit.ensures c.if-not-fit.false-raw in let a = c.args in c.after.ensures ∙ rw h (rebuilt _ _ (c.settled-t.ensures ∙ settled_fit a.self a.report h) (kept_resulted _ _ _))
