use native.Mathlib.Omega.{arith}
use Rattle.report_text.specs.Lines.{report_of}
use Rattle.report_text.proofs.Running.{name_short, no_text_room, whole_text}
use Rattle.report_text.proofs.report.Goals as goal

pub put_full-requires : goal.put_full-requires
put_full-requires c = rw (c.empty-text.ensures, c.name_of.ensures) (omega (arith, name_short c.in-Some.place, no_text_room))

pub returns-in-Some : goal.returns-in-Some
unfolding report_of
returns-in-Some c = rw (c.in-Some.is, ← c.name_of.ensures) (whole_text _ _ (rw c.empty-text.ensures at c.put_full.ensures))

pub returns : goal.returns
unfolding report_of
returns c = rw c.in_default.is (whole_text _ _ (rw c.empty-text.ensures at c.put_lines.ensures))
