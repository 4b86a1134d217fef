use mathlib.Core.Path.{◌≡◌}
use Prim.Native.Nat.{ℕ, ◌<◌}
use Rattle.desk.specs.declared.Line.{Line}
use Rattle.desk.specs.Private.{lines_laid}
use Rattle.desk.proofs.listing.gathered.Given as goal

-- so far as the closure gives the lines of f, they are laid
abbrev pub invariant-loop-j : goal.invariant-loop-j
invariant-loop-j g l =
    (f : ℕ → Line) → ((j : ℕ) → j < 42 → (x : Line) → goal.F-post g l.line j x → x ≡ f j) → l.all ≡ lines_laid l.initial.all l.j f
