-- `week::cars_after` meets its contract: the same record, or its cars counted. Assumes nothing.
use mathlib.Core.Path.{ap, ◌∙◌}
use Prim.Native.Nat.{ℕ}
use Rattle.floor.specs.Sound.{total, cars_in}
use Rattle.week.proofs.cars_after.Goals as goal

pub returns-then-before-after : goal.returns-then-before-after
returns-then-before-after c = c.requires.0 ∙ ap (λ (r : ℕ). cars_in (total r)) c.if-before-after.true
