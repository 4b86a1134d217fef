use mathlib.Core.Path.{sym, ◌∙◌, ap}
use Prim.Native.Nat.{ℕ}
use lib.ListN.{length}
use Rattle.drawing.specs.Drawing.{height_name}
use Rattle.drawing.proofs.Words.{street_size, other_size}
use native.Mathlib.Omega.{arith}
use Rattle.drawing.proofs.lift_line.name_size.Goals as goal

pub returns-in-0 : goal.returns-in-0
returns-in-0 c = sym (ap (λ (h : ℕ). length (height_name h)) c.in-0.is ∙ street_size)

pub returns-in_default : goal.returns-in_default
returns-in_default c = sym (other_size c.args.height (λ e. omega arith))
