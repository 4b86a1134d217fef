-- `desk::Desk::followed` meets its contract: by the outcome. Assumes nothing.
use mathlib.Core.Path.{◌∙◌}
use Rattle.desk.proofs.Taking.{followed_done, followed_not}
use Rattle.desk.proofs.Desk.followed.Goals as goal

pub returns-then-report-eq-DONE : goal.returns-then-report-eq-DONE
returns-then-report-eq-DONE c =
    c.done.ensures
    ∙ followed_done c.args.self c.args.report c.if-report-eq-DONE.true

pub returns : goal.returns
returns c = followed_not c.args.self c.args.report c.if-report-eq-DONE.false
