use mathlib.Core.Path.{sym, ◌∙◌}
use native.Mathlib.Omega.{arith}
use Rattle.drawing.proofs.Standing.{bad_lift, bad_past, none_bad}
use Rattle.drawing.proofs.Words.{last_short}
use Rattle.drawing.proofs.bad_at_end.Goals as goal

pub returns-in_default : goal.returns-in_default
returns-in_default c = bad_lift _ _ _ (sym c.in_default.is ∙ c.last_in.ensures)

pub overflow_add-last_size : goal.overflow_add-last_size
overflow_add-last_size c = omega (arith, c.last_size.ensures, last_short c.args.apart c.in-Some.lift)

pub returns-then-last_size-text : goal.returns-then-last_size-text
returns-then-last_size-text c =
    bad_past _ _ _ (sym c.in-Some.is ∙ c.last_in.ensures) c.last_size.ensures c.if-last_size-text.true

pub returns : goal.returns
returns c = none_bad _ _ _ (sym c.in-Some.is ∙ c.last_in.ensures) c.last_size.ensures c.if-last_size-text.false
