use Rattle.report_text.proofs.Running.{Running}
use Rattle.report_text.proofs.Text.put_lines.Given as goal

abbrev pub invariant-loop-place : goal.invariant-loop-place
invariant-loop-place l = Running l.initial.self l.counts l.self l.place
