-- `floor::three` meets its contract: the three answers are the parts of the test. Assumes nothing.
use mathlib.Core.Path.{ap, ap₂}
use mathlib.Core.Bool.{◌&&◌, ◌||◌}
use Prim.Native.Nat.{ℕ}
use lib.Dec.{eqb}
use Rattle.floor.proofs.three.Goals as goal

pub returns : goal.returns
returns c =
    ap₂ ◌&&◌ (ap (λ (n : ℕ). eqb n 3) c.count.ensures)
    (ap₂ ◌||◌ c.free.ensures (ap (λ (n : ℕ). eqb n 1) c.count-2.ensures))
