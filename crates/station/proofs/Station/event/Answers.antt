-- `station::Station::event` meets its contract: an unfit station is refused before all else. Assumes nothing.
use Rattle.std.proofs.Common.{◌∙◌}
use Rattle.station.specs.Calls.{event}
use Rattle.bits.proofs.Cases.{failed, passed}
use Rattle.station.proofs.Turns.{rebuilt, kept_evented}
use Rattle.station.proofs.Station.event.Goals as goal

pub returns-then-not-fit : goal.returns-then-not-fit
unfolding event
returns-then-not-fit c = c.refused.ensures ∙ rw (failed c.fit.ensures c.if-not-fit.true-raw)

pub returns : goal.returns
unfolding event
returns c = c.after.ensures ∙ rw (passed c.fit.ensures c.if-not-fit.false-raw) (rebuilt _ _ c.evented-t.ensures (kept_evented _ _ _))
