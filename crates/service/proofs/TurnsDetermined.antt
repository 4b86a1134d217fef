-- No second answer and no second buffer or room fit what a turn promises. Assumes nothing.
use mathlib.Core.Path.{◌≡◌, sym, ◌∙◌}
use mathlib.Core.List.{List}
use Prim.Native.Nat.{ℕ}
use Rattle.service.specs.declared.buffer.Turned.{Turned}
use Rattle.service.specs.Turns.{Holding, Holds, Turning, Turns}

pub one_holding : (w : Holding) (n m : ℕ) (buf other : List ℕ) → Holds w n buf → Holds w m other → (n ≡ m) × (buf ≡ other)
one_holding w n m buf other p q = (p.0 ∙ sym q.0, p.1 ∙ sym q.1)

pub one_turning : (w : Turning) (r s : Turned) (buf other room another : List ℕ)
    → Turns w r buf room → Turns w s other another → (r ≡ s) × (buf ≡ other) × (room ≡ another)
one_turning w r s buf other room another p q = (p.0 ∙ sym q.0, p.1 ∙ sym q.1, p.2 ∙ sym q.2)
