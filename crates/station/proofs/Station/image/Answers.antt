-- `station::Station::image` meets its contract: an unfit station is refused before all else. Assumes nothing.
use Rattle.std.proofs.Common.{◌∙◌}
use Rattle.station.specs.Calls.{take_image}
use Rattle.bits.proofs.Cases.{failed, passed}
use Rattle.station.proofs.Turns.{rebuilt, kept_imaged}
use Rattle.station.proofs.Station.image.Goals as goal

pub returns-then-not-fit : goal.returns-then-not-fit
unfolding take_image
returns-then-not-fit c = c.refused.ensures ∙ rw (failed c.fit.ensures c.if-not-fit.true-raw)

pub returns : goal.returns
unfolding take_image
returns c = c.after.ensures ∙ rw (passed c.fit.ensures c.if-not-fit.false-raw) (rebuilt _ _ c.imaged-t.ensures (kept_imaged _ _ _))
