use Rattle.totals.proofs.Placing.{from_results}
use Rattle.totals.specs.Private.{count_marks}
use native.Mathlib.Omega.{arith}
use Rattle.totals.proofs.marks_of.Goals as goal

pub marked-result-requires : goal.marked-result-requires
marked-result-requires c = (from_results c.args.h.done c.results_from.result c.results_from.ensures, omega arith)

pub returns : goal.returns
unfolding count_marks
returns c = rw (c.marked-kind.ensures, c.marked-answer.ensures, c.marked-result.ensures, c.results_from.ensures, c.marked-drive.ensures)
