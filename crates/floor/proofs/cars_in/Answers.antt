-- `floor::cars_in` meets its contract: the three counts are those of the definition, and the masks name their places. Assumes nothing.
use mathlib.Core.Path.{ap₂, ◌∙◌}
use Prim.Native.Nat.{ℕ, ◌+◌, ◌/◌}
use native.Mathlib.Nat.{add-zero}
use Rattle.bits.specs.Bits.{bit, digit}
use Rattle.bits.specs.Places.{places}
use Rattle.floor.specs.Floor.{raised_car}
use Rattle.floor.specs.Cars.{cars}
use Rattle.floor.proofs.cars_in.Goals as goal

pub returns : goal.returns
unfolding places cars
returns c =
    let raised = c.count-raised.ensures ∙ add-zero (digit (bit c.args.r raised_car)) in
    ap₂ ◌+◌ (ap₂ (λ (x y : ℕ). x / 2 + y) c.count-halves.ensures c.count-wholes.ensures) raised
