-- No second answer and no second room fit what a call that takes an append promises. Assumes nothing.
use mathlib.Core.Path.{◌≡◌, sym, ◌∙◌}
use mathlib.Core.List.{List}
use Prim.Native.Nat.{ℕ}
use Rattle.journal_file.specs.declared.Step.{Step}
use Rattle.journal_file.specs.Replaying.{Stepping, LeavesStep}

pub one_step : (w : Stepping) (q s : Step) (room other : List ℕ) → LeavesStep w q room → LeavesStep w s other → (q ≡ s) × (room ≡ other)
one_step w q s room other a b = (a.0 ∙ sym b.0, a.1 ∙ sym b.1)
