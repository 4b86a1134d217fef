-- `plain::shuttles::whole` meets its contract. Assumes nothing.
use mathlib.Core.Path.{ap₂, ◌∙◌}
use mathlib.Core.Bool.{Bool, not, ◌&&◌, ◌||◌}
use Prim.Native.Nat.{ℕ, ◌%◌}
use lib.Dec.{eqb}
use Rattle.bits.specs.Bits.{bit}
use Rattle.floor.specs.Tests.{even}
use Rattle.floor.specs.Floor.{place}
use Rattle.plain.specs.Plain.{plain_bits}
use Rattle.plain.proofs.Asking.{only_where}
use Rattle.plain.proofs.shuttles.whole.Goals as goal

pub returns : goal.returns
returns c = let a = c.args in
    ap₂ (λ (b : Bool) (n : ℕ). not (eqb a.orientation 0 && b) || eqb (n % 2) 0) c.names.ensures c.at_position.ensures
    ∙ only_where (eqb a.orientation 0 && bit a.mask 0) (even (place a.side 1)) (plain_bits a.f)
