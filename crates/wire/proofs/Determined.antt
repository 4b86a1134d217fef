-- No second answer and no second room fit what a call that writes promises. Assumes nothing.
use mathlib.Core.Path.{◌≡◌, sym, ◌∙◌}
use mathlib.Core.List.{List}
use Prim.Native.Nat.{ℕ}
use Rattle.wire.specs.Writes.{Written, Writing, LeavesMessage}

pub one_writing : (w : Writing) (r s : Written) (room other : List ℕ) → LeavesMessage w r room → LeavesMessage w s other → (r ≡ s) × (room ≡ other)
one_writing w r s room other p q = (p.0 ∙ sym q.0, p.1 ∙ sym q.1)
