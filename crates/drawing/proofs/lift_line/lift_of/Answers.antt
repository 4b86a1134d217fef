use mathlib.Core.Path.{ap, ap₂, ◌∙◌}
use Prim.Native.Nat.{ℕ, ◌+◌, ◌*◌}
use Rattle.bits.specs.Bits.{digit}
use Rattle.bits.proofs.Packing.{byte_digit}
use Rattle.drawing.specs.Private.{lift_of}
use Rattle.drawing.proofs.Words.{lift_alike}
use Rattle.drawing.proofs.lift_line.lift_of.Goals as goal

pub returns : goal.returns
unfolding lift_of
returns c = lift_alike
    (ap₂ (λ (x y : ℕ). x + 2 * y) (byte_digit c.bit-low.result ∙ ap digit c.bit-low.ensures)
    (byte_digit c.bit-high.result ∙ ap digit c.bit-high.ensures))
    c.bit-car.ensures c.drive_of-drive.ensures
