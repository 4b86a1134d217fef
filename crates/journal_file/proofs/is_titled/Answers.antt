use native.Mathlib.Omega.{arith}
use Prim.Native.Nat.{ℕ}
use lib.Dec.{eqb, leb}
use mathlib.Core.Bool.{◌&&◌}
use mathlib.Core.Path.{sym, ap, ap₂}
use lib.Seq.{length-take-le}
use Rattle.journal_file.proofs.is_titled.Goals as goal

pub slice_bounds-continue_by-end : goal.slice_bounds-continue_by-end
slice_bounds-continue_by-end c = sym (length-take-le 4 c.args.m.now (omega arith))

pub returns : goal.returns
returns c = ap₂ ◌&&◌ (ap₂ eqb c.four_at-said.ensures c.continue_by.ensures) (ap (λ (n : ℕ). leb n 65536) c.carried_of.ensures)
