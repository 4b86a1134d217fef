use native.Mathlib.Omega.{arith}
use mathlib.Core.Path.{ap, ◌∙◌}
use Rattle.totals.specs.Totals.{totals_of}
use Rattle.report_c.specs.Entries.{totals_in}
use Rattle.codec.proofs.Fours.{four_there, reading_starts, reading_turns, reading_ends}
use Rattle.report_c.proofs.load.Goals as goal

pub loop-place-init : goal.loop-place-init
loop-place-init c = reading_starts 52 c.args.room.now

pub loop-place-preserved : goal.loop-place-preserved
loop-place-preserved c = reading_turns 52 c.args.room.now c.loop-place.counts c.loop-place.place c.four_at.result (omega arith) (c.four_at.ensures ∙ four_there _ _ (omega (arith, c.requires))) c.loop-place.invariant

pub returns : goal.returns
unfolding totals_in
returns c = ap totals_of (reading_ends 52 c.args.room.now c.loop-place.counts c.loop-place.place (omega arith) c.loop-place.invariant)
