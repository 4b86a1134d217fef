-- `plan::meets` meets its contract: the masks name the places of the tests. Assumes nothing.
use Rattle.std.proofs.Common.{◌&&◌, ap₂}
use Rattle.bits.specs.Bits.{bit}
use Rattle.bits.specs.Places.{places}
use Rattle.plan.proofs.Walking.{with_car, without_car}
use Rattle.plan.proofs.meets.Goals as goal

pub returns-then-wish-eq1 : goal.returns-then-wish-eq1
unfolding places
returns-then-wish-eq1 c =
    ap₂ ◌&&◌ (ap₂ ◌&&◌ c.free.ensures c.free-2.ensures)
    (with_car _ (bit c.args.r) c.if-wish-eq1.true c.all.ensures)

pub returns : goal.returns
unfolding places
returns c =
    ap₂ ◌&&◌ (ap₂ ◌&&◌ c.free.ensures c.free-2.ensures)
    (without_car _ (bit c.args.r) c.if-wish-eq1.false c.free-3.ensures)
