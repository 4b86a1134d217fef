use mathlib.Core.Path.{ap}
use Prim.Native.Nat.{ℕ, ◌%◌}
use lib.Dec.{eqb}
use Rattle.bits.proofs.even.Goals as goal

pub returns : goal.returns
returns c = ap (λ (n : ℕ). eqb (n % 2) 0) c.count.ensures
