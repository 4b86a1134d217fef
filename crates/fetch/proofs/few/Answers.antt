-- `fetch::few` meets its contract by the count's own. Assumes nothing.
use mathlib.Core.Path.{ap}
use Prim.Native.Nat.{ℕ}
use lib.Dec.{leb}
use Rattle.fetch.proofs.few.Goals as goal

pub returns : goal.returns
returns c = ap (λ (n : ℕ). leb n 4) c.count.ensures
