-- What an instruction of a set says, read from its place on. Assumes nothing.
use mathlib.Core.Path.{◌≡◌, sym, ap, ◌∙◌}
use mathlib.Core.List.{List}
use Prim.Native.Nat.{ℕ, ◌*◌, ◌-◌, ◌≤◌, ◌<◌}
use native.Mathlib.Omega.{arith}
use lib.ListN.{length, take, drop, length-drop}
use borrow.Author.Tests.{le-ltb}
use borrow.Author.Rules.{part_to_end}
use Rattle.std.specs.declared.option.Option.{Option}
use Rattle.rules.specs.Codes.{read_code, read_bytes}
use Rattle.station.specs.Held.{code_at}
use Rattle.station.proofs.Loops.{past_eighth}

-- past the eighth there is none
pub read_past : (set : List ℕ) (i : ℕ) → length set ≡ 40 → 8 ≤ i → Option.None ≡ read_code (code_at set i)
unfolding read_code
read_past set i e h = ap read_code (past_eighth set i e h)

-- the rest of the set from there on starts with its five bytes
pub read_rest : (set : List ℕ) (i : ℕ) → length set ≡ 40 → i < 8 → read_bytes (take (40 - 5 * i) (drop (5 * i) set)) ≡ read_code (code_at set i)
unfolding read_bytes code_at
read_rest set i e h = ap (λ (n : ℕ). read_bytes (take (n - 5 * i) (drop (5 * i) set))) (sym e) ∙ ap read_bytes (part_to_end set (5 * i)) ∙ rw (le-ltb (length (drop (5 * i) set)) 5 long)
  where
    long : 5 ≤ length (drop (5 * i) set)
    long = rw (length-drop (5 * i) set, e) (omega arith)
