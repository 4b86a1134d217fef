-- `station::Station::request` meets its contract: an unfit station is refused before all else. Assumes nothing.
use Rattle.std.proofs.Common.{◌∙◌}
use Rattle.station.specs.Calls.{request}
use Rattle.bits.proofs.Cases.{failed, passed}
use Rattle.station.proofs.Turns.{rebuilt, kept_requested}
use Rattle.station.proofs.Station.request.Goals as goal

pub returns-then-not-fit : goal.returns-then-not-fit
unfolding request
returns-then-not-fit c = c.refused.ensures ∙ rw (failed c.fit.ensures c.if-not-fit.true-raw)

pub returns : goal.returns
unfolding request
returns c = c.after.ensures ∙ rw (passed c.fit.ensures c.if-not-fit.false-raw) (rebuilt _ _ c.requested-t.ensures (kept_requested _ _ _ _ c.only.ensures))
