-- No second answer and no second room fit what a run of messages promises. Assumes nothing.
use mathlib.Core.Path.{◌≡◌, sym, ◌∙◌}
use mathlib.Core.List.{List}
use Prim.Native.Nat.{ℕ}
use Rattle.service.specs.declared.Served.{Served}
use Rattle.service.specs.Runs.{Serving, Serves}

pub one_serving : (w : Serving) (r s : Served) (room other : List ℕ) → Serves w r room → Serves w s other → (r ≡ s) × (room ≡ other)
one_serving w r s room other p q = (p.0 ∙ sym q.0, p.1 ∙ sym q.1)
