use mathlib.Core.Path.{ap}
use mathlib.Core.Bool.{◌||◌}
use Prim.Native.Nat.{ℕ}
use lib.Dec.{eqb}
use Rattle.drawing.proofs.is_mark.Goals as goal

pub returns : goal.returns
returns c = ap (λ (m : ℕ). eqb c.args.b m || eqb c.args.b 46) c.occupied-mark.ensures
