-- How long a line is. Assumes nothing.
use mathlib.Core.Path.{◌≡◌, ◌∙◌}
use mathlib.Core.List.{◌++◌}
use Prim.Native.Nat.{ℕ, ◌+◌}
use native.Mathlib.Omega.{arith}
use lib.ListN.{length, length-append}
use Rattle.totals.specs.declared.Name.{Name}
use Rattle.codec.specs.Text.{ascii, decimal}
use Rattle.report_text.specs.Lines.{total_name, line_of}

pub line_length : (x : Name) (v : ℕ) → length (line_of x v) ≡ length (total_name x) + (length (decimal v) + 2)
unfolding line_of ascii
line_length x v =
    length-append (total_name x) (ascii " " ++ (decimal v ++ ascii "\n")) ∙ omega (arith, length-append (decimal v) (ascii "\n"))
