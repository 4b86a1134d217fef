-- `desk_c::numbers_in` meets its contract: number by number. Assumes nothing.
use native.Mathlib.Omega.{arith}
use mathlib.Core.Path.{◌∙◌}
use Rattle.codec.proofs.Fours.{four_there, reading_starts, reading_turns, reading_ends}
use Rattle.desk_c.proofs.numbers_in.Goals as goal

pub loop-place-init : goal.loop-place-init
loop-place-init c = reading_starts 42 c.args.run.now

pub loop-place-preserved : goal.loop-place-preserved
loop-place-preserved c = reading_turns 42 c.args.run.now c.loop-place.numbers c.loop-place.place c.four_at.result (omega arith) (c.four_at.ensures ∙ four_there _ _ (omega (arith, c.requires))) c.loop-place.invariant

pub returns : goal.returns
returns c = reading_ends 42 c.args.run.now c.loop-place.numbers c.loop-place.place (omega arith) c.loop-place.invariant
