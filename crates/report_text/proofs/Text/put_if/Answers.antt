use mathlib.Core.Path.{◌≡◌, sym, ap, ◌∙◌}
use mathlib.Core.Bool.{true, false}
use native.Mathlib.Omega.{arith}
use Rattle.totals.specs.Totals.{name_at}
use Rattle.report_text.specs.Lines.{printed}
use Rattle.report_text.specs.Private.{line_if}
use Rattle.report_text.proofs.Running.{line_short, adds_none}
use Rattle.report_text.proofs.Text.put_if.Goals as goal

pub put_line-requires : goal.put_line-requires
put_line-requires c = rw c.name_of-name.ensures (omega (arith, c.requires, line_short c.args.place c.args.value c.ranges.value.fits))

pub returns-then-is_printed : goal.returns-then-is_printed
unfolding line_if
returns-then-is_printed c =
    let at : printed (name_at c.args.place) ≡ true = ap printed (sym c.name_of-name.ensures) ∙ sym c.is_printed.ensures ∙ c.if-is_printed.true in
    let short = line_short c.args.place c.args.value c.ranges.value.fits in
    let line = rw c.name_of-name.ensures at c.put_line.ensures in
    (rw at line, omega (arith, line.next))

pub returns-else-is_printed : goal.returns-else-is_printed
unfolding line_if
returns-else-is_printed c =
    let at : printed (name_at c.args.place) ≡ false = ap printed (sym c.name_of-name.ensures) ∙ sym c.is_printed.ensures ∙ c.if-is_printed.false in
    (rw at (adds_none _), omega arith)
