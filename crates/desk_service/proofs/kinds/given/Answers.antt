-- `desk_service::kinds::given` meets its contract: number by number. Assumes nothing.
use Prim.Native.Nat.{◌-◌}
use native.Mathlib.Omega.{arith}
use mathlib.Core.Path.{◌∙◌}
use Rattle.codec.proofs.Fours.{four_there, reading_starts, reading_turns, reading_ends}
use Rattle.desk_service.proofs.kinds.given.Goals as goal

pub loop-place-init : goal.loop-place-init
loop-place-init c = reading_starts 31 c.args.b

pub loop-place-preserved : goal.loop-place-preserved
loop-place-preserved c = reading_turns 31 c.args.b c.loop-place.numbers c.loop-place.place c.four_at.result (omega arith) (c.four_at.ensures ∙ four_there _ _ (omega arith)) c.loop-place.invariant

pub returns : goal.returns
returns c = reading_ends 31 c.args.b c.loop-place.numbers c.loop-place.place (omega arith) c.loop-place.invariant
