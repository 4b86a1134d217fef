-- `engine::possible` meets its contract: of each event its turn, then what its conditions test. Assumes nothing.
use Rattle.engine.proofs.Lifting.{in_law, out_law}
use Rattle.bits.specs.Bits.{bit}
use mathlib.Core.Bool.{◌&&◌}
use mathlib.Core.Path.{ap, ap₂, ◌∙◌}
use Rattle.engine.proofs.possible.Goals as goal

pub returns-in-BeginIn : goal.returns-in-BeginIn
returns-in-BeginIn c = rw c.in-BeginIn.is (ap (λ x. c.in_turn-due.result && x) (ap₂ ◌&&◌ c.height_is.ensures c.free.ensures) ∙ in_law (bit c.args.r) (rw c.in-BeginIn.is at c.in_turn-due.ensures))

pub returns-in-BeginOut : goal.returns-in-BeginOut
returns-in-BeginOut c = rw c.in-BeginOut.is (ap (λ x. c.in_turn-due.result && x) (ap₂ ◌&&◌ c.height_is-in-BeginOut.ensures c.all.ensures) ∙ out_law (bit c.args.r) (rw c.in-BeginOut.is at c.in_turn-due.ensures))
