-- `plain::lifts::may_leave` meets its contract: each test is one of the rule's. Assumes nothing.
use mathlib.Core.Path.{ap, ap₂}
use mathlib.Core.Bool.{Bool, not, ◌&&◌, ◌||◌}
use Prim.Native.Nat.{ℕ, ◌%◌}
use lib.Dec.{eqb}
use Rattle.plain.proofs.lifts.may_leave.Goals as goal

pub returns : goal.returns
returns c = ap₂ (λ (low fine : Bool). not low || fine) c.lift_at.ensures
    (ap₂ ◌||◌ (ap (λ (n : ℕ). eqb n 0) c.among-empty.ensures)
    (ap₂ ◌&&◌ (ap (λ (n : ℕ). eqb (n % 2) 0) c.among.ensures) (ap (λ (n : ℕ). eqb (n % 2) 0) c.among-2.ensures)))
